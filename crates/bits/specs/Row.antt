-- Fields in a row: each a width and a number.
-- Assumes nothing.
use Rattle.std.specs.Prelude.{ℕ, ◌+◌, ◌*◌, ◌/◌, ◌%◌, ◌^◌, ◌≤◌, Bool, true, List, [], ◌∷◌, ◌++◌, ltb, length, take, drop}
use Rattle.laws.specs.Tests.{both, pick}
use Rattle.bits.specs.Bits.{high_first}
use Rattle.bits.specs.Field.{bits_of, packed, field_of}
use Rattle.bits.specs.declared.row.Four.{Four}
use Rattle.bits.specs.declared.row.Widths.{Widths}

-- their bits
unfoldable pub laid : List (ℕ × ℕ) → List ℕ
laid [] = []
laid (f ∷ fs) = high_first f.0 f.1 ++ laid fs

-- how many bits
unfoldable pub width_of : List (ℕ × ℕ) → ℕ
width_of [] = 0
width_of (f ∷ fs) = f.0 + width_of fs

-- every number has its width
unfoldable pub all_fit : List (ℕ × ℕ) → Bool
all_fit [] = true
all_fit (f ∷ fs) = both (ltb f.1 (2 ^ f.0)) (all_fit fs)

-- the bytes with the fields from bit at on
unfoldable pub lay_over : List ℕ → ℕ → List (ℕ × ℕ) → List ℕ
lay_over l at fs = packed (length l) (take at (bits_of l) ++ laid fs ++ drop (at + width_of fs) (bits_of l))

-- the fields of these widths that stand from bit at on
unfoldable pub row_at : List ℕ → ℕ → List ℕ → List (ℕ × ℕ)
row_at [] at l = []
row_at (w ∷ ws) at l = (w, field_of l at w) ∷ row_at ws (at + w) l

unfoldable pub widths_of : List (ℕ × ℕ) → List ℕ
widths_of [] = []
widths_of (f ∷ fs) = f.0 ∷ widths_of fs

-- the four fields of these widths that stand from bit at on
abbrev pub four_at : List ℕ → ℕ → ℕ → ℕ → ℕ → ℕ → Four
four_at l at a b c d = record { a = field_of l at a; b = field_of l (at + a) b; c = field_of l (at + a + b) c; d = field_of l (at + a + b + c) d }

-- four numbers, of these widths
abbrev pub four_row : Four → ℕ → ℕ → ℕ → ℕ → List (ℕ × ℕ)
four_row f a b c d = (a, f.a) ∷ (b, f.b) ∷ (c, f.c) ∷ (d, f.d) ∷ []

-- as one number, the first one the highest
abbrev pub joined_four : Four → ℕ → ℕ → ℕ → ℕ
joined_four f b c d = ((f.a * 2 ^ b + f.b) * 2 ^ c + f.c) * 2 ^ d + f.d

-- the same as a field of so many bits: a number that is too wide makes it too wide
unfoldable pub one_of : Four → ℕ → ℕ → ℕ → ℕ → ℕ
one_of f a b c d = pick (all_fit (four_row f a b c d)) (joined_four f b c d) (2 ^ (a + b + c + d))

-- a number taken apart: d bits from its low end, then c, then b, and what is left
abbrev pub split_of : ℕ → ℕ → ℕ → ℕ → Four
split_of v b c d = record { a = v / 2 ^ (b + c + d); b = v / 2 ^ (c + d) % 2 ^ b; c = v / 2 ^ d % 2 ^ c; d = v % 2 ^ d }

-- widths of fields that can be read
pub record Readable (w : Widths) : Type 0 where
  pub some-a : 1 ≤ w.0
  pub some-b : 1 ≤ w.1
  pub some-c : 1 ≤ w.2
  pub some-d : 1 ≤ w.3
  pub few-a : w.0 ≤ 32
  pub few-b : w.1 ≤ 32
  pub few-c : w.2 ≤ 32
  pub few-d : w.3 ≤ 32
