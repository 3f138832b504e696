-- What putting zeros into a word comes to: the words for the contracts of the functions in src/stuff.rt that know no place.
-- Assumes nothing.
use Rattle.std.specs.Prelude.{◌≡◌, ℕ, ◌+◌, ◌-◌, ◌*◌, ◌/◌, ◌%◌, ◌^◌, ◌<◌, ◌≤◌, bit_and}
use Rattle.bits.specs.Bits.{low_first}
use Rattle.stuffing.specs.Stuff.{stuffed, left_after}
use Rattle.stuffing.specs.Marks.{up_to_lowest}
use Rattle.stuffing.specs.declared.marks.Marked.{Marked}

-- how many ones may come before the one that a 0 follows, by the last four bits sent
unfoldable pub left_of : ℕ → ℕ
left_of tail = left_after 4 (low_first 4 tail)

-- a 0 after the lowest bit that is marked, as the code computes it
unfoldable pub zero_put : Marked → Marked
zero_put s = record {
  bits = s.bits + (s.bits - bit_and s.bits (up_to_lowest s.marks));
  marks = (s.marks - bit_and s.marks (up_to_lowest s.marks * 2 ^ 4 % 2 ^ 64 + 15)) * 2;
  done = s.done + (1 - up_to_lowest s.marks / 0x8000000000000000);
}

-- the bits of a number, as many as it may be said to have, stuffed
pub record Stuffs (tail v : ℕ) (s : Marked) : Type 0 where
  pub are : (n : ℕ) → n ≤ 32 → v < 2 ^ n → low_first (n + s.done) s.bits ≡ stuffed (left_of tail) (low_first n v)
  pub small : (n : ℕ) → n ≤ 32 → v < 2 ^ n → s.bits < 2 ^ (n + s.done)
