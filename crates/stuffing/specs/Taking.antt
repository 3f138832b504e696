-- What taking bits, 32 at a time, keeps true: the words for the contracts in src/unstuff.rt.
-- Assumes nothing.
use Rattle.std.specs.Prelude.{◌≡◌, ℕ, zero, suc, ◌+◌, ◌-◌, ◌*◌, ◌/◌, ◌%◌, ◌^◌, ◌<◌, ◌≤◌, Bool, true, false, List, [], ◌∷◌, ◌++◌, length, take, bit_and}
use Rattle.laws.specs.Tests.{pick}
use Rattle.bits.specs.Bits.{low_first, sent_bits}
use Rattle.stuffing.specs.Stuff.{legal, unstuffed}
use Rattle.stuffing.specs.Marks.{fives_of, up_to_lowest, kept}
use Rattle.stuffing.specs.declared.marks.Marked.{Marked}
use Rattle.stuffing.specs.declared.unstuff.Taking.{Taking}

-- k: how many ones may come before a bit that was put in. How many may come after these bits
unfoldable pub left_in : ℕ → List ℕ → ℕ
left_in k [] = k
left_in zero (x ∷ xs) = left_in 5 xs
left_in (suc k) (zero ∷ xs) = left_in 5 xs
left_in (suc k) (suc x ∷ xs) = left_in k xs

-- no bit that was put in is 1
unfoldable pub clean : ℕ → List ℕ → Bool
clean k [] = true
clean zero (zero ∷ xs) = clean 5 xs
clean zero (suc x ∷ xs) = false
clean (suc k) (zero ∷ xs) = clean 5 xs
clean (suc k) (suc x ∷ xs) = clean k xs

-- the same by the last five bits, the lowest first
unfoldable pub left_by : ℕ → ℕ
left_by tail = left_in 5 (low_first 5 tail)

-- of 32 bits after these five, those that have five ones before them
unfoldable pub put_in : ℕ → ℕ → ℕ
put_in tail v = fives_of (v * 32 + tail) % 2 ^ 32

-- the lowest marked bit left out, as the code computes it
unfoldable pub left_out : Marked → Marked
left_out s = record {
  bits = (s.bits + bit_and s.bits (up_to_lowest s.marks)) / 2;
  marks = (s.marks - bit_and s.marks (up_to_lowest s.marks)) / 2;
  done = s.done + (1 - up_to_lowest s.marks / 0x8000000000000000);
}

-- 32 bits with those left out that are marked: the others, and how many are gone
pub record Leaves (v m : ℕ) (s : Marked) : Type 0 where
  pub few : s.done ≤ 32
  pub are : low_first (32 - s.done) s.bits ≡ kept (low_first 32 m) (low_first 32 v)
  pub small : s.bits < 2 ^ (32 - s.done)

-- the numbers are in their ranges
pub record Sound (s : Taking) (raw : List ℕ) : Type 0 where
  pub five : s.tail < 32
  pub under : s.have < 32
  pub small : s.part < 2 ^ s.have
  pub fits : s.count ≤ length raw

-- the bits of the frame that are not stored yet, where `rest` is still to be taken
unfoldable pub pending : Taking → List ℕ → List ℕ
pending s rest = low_first s.have s.part ++ unstuffed (left_by s.tail) rest

unfoldable pub lawful : Taking → List ℕ → Bool
lawful s rest = pick s.spoilt false (legal (left_by s.tail) rest)

-- what is stored, and what is pending, still makes the frame; and what is to come still decides whether all of it is legal
pub record Going (frame : List ℕ) (verdict : Bool) (s : Taking) (raw rest : List ℕ) : Type 0 where
  pub law : lawful s rest ≡ verdict
  pub goes : s.spoilt ≡ false → sent_bits (take s.count raw) ++ pending s rest ≡ frame

-- taking these bits leads from one state to another
pub record Took (bits : List ℕ) (s : Taking) (raw : List ℕ) (s' : Taking) (raw' : List ℕ) : Type 0 where
  pub sound : Sound s' raw'
  pub more : 8 * s'.count + s'.have ≤ 8 * s.count + s.have + length bits
  pub on : (frame : List ℕ) (verdict : Bool) (rest : List ℕ) → Going frame verdict s raw (bits ++ rest) → Going frame verdict s' raw' rest
