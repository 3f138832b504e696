-- What reading a packet comes to before its check is looked at: the words for the contracts in src/reading.rt.
-- Assumes nothing.
use Rattle.std.specs.Prelude.{ℕ, ◌+◌, ◌*◌, ◌/◌, ◌≤◌, ◌≡◌, false, not, List, ◌++◌, eqb, take}
use Rattle.laws.specs.Tests.{pick}
use Rattle.limits.specs.Limits.{most_body}
use Rattle.bits.specs.Bits.{low_first, sent_bits}
use Rattle.checking.specs.Check.{zeros}
use Rattle.stuffing.specs.Stuff.{legal, unstuffed}
use Rattle.stuffing.specs.Taking.{Sound}
use Rattle.stuffing.specs.declared.unstuff.Taking.{Taking}

-- the bytes that reading may touch: all bits behind four bytes of zeros, and eight bytes that are stored at a time
abbrev pub raw_bytes : ℕ
raw_bytes = (most_body + 32) / 8 + 8

-- all bits of a body taken: it is told whether all was legal; what is stored, and the bits that are not, are four bytes of zeros and the frame
pub record Unstuffed (body : List ℕ) (s : Taking) (raw : List ℕ) : Type 0 where
  pub sound : Sound s raw
  pub room : 8 * s.count + s.have ≤ most_body + 32
  pub law : pick s.spoilt false (not (eqb s.tail 31)) ≡ legal 5 body
  pub stored : s.spoilt ≡ false → sent_bits (take s.count raw) ++ low_first s.have s.part ≡ zeros 32 ++ unstuffed 5 body
