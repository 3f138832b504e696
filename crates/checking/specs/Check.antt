-- The check sequence: a register of 16 bits, all ones at first, goes through the bits as they are sent. Where the bit that
-- leaves at the top differs from the bit that comes in, x^12 + x^5 + 1, which is 0x1021, is added to the rest.
-- Assumes nothing.
use Rattle.std.specs.Prelude.{ℕ, zero, suc, ◌-◌, ◌*◌, ◌/◌, ◌%◌, ◌^◌, List, [], ◌∷◌, eqb}
use Rattle.std.specs.Int.Bits.{bit_xor}
use Rattle.laws.specs.Tests.{pick}
use Rattle.bits.specs.Bits.{low_first, high_value}

unfoldable pub stepped : ℕ → ℕ → ℕ
stepped r b = pick (eqb (r / 2 ^ 15) b) (r * 2 ^ 1 % 2 ^ 16) (bit_xor (r * 2 ^ 1 % 2 ^ 16) 0x1021)

unfoldable pub through : ℕ → List ℕ → ℕ
through r [] = r
through r (b ∷ bs) = through (stepped r b) bs

-- the check sequence as a number, whose bits are sent the highest first: the register's complement
abbrev pub check_of : List ℕ → ℕ
check_of bs = 0xffff - through 0xffff bs

-- ---- what the code goes by

unfoldable pub zeros : ℕ → List ℕ
zeros zero = []
zeros (suc n) = 0 ∷ zeros n

-- the register with its 16 bits in the other order: bits come in at its low end as they stand in their bytes
unfoldable pub mirrored : ℕ → ℕ
unfolding high_value low_first
mirrored r = high_value 0 (low_first 16 r)
