-- Two's complement.
-- Assumes nothing.
use Rattle.std.specs.Prelude.{ℕ, ◌-◌, ◌^◌, ℤ, pos, negsuc, ltb}
use Rattle.laws.specs.Tests.{pick}

-- what w bits mean: v, or v - 2^w where the high bit is 1 (negsuc n is -(n + 1))
unfoldable pub signed_of : ℕ → ℕ → ℤ
signed_of w v = pick (ltb v (2 ^ (w - 1))) (pos v) (negsuc (2 ^ w - 1 - v))

-- the w bits that mean a number; 2^w, which has no w bits, where none do
unfoldable pub unsigned_of : ℕ → ℤ → ℕ
unsigned_of w (pos n) = pick (ltb n (2 ^ (w - 1))) n (2 ^ w)
unsigned_of w (negsuc n) = pick (ltb n (2 ^ (w - 1))) (2 ^ w - 1 - n) (2 ^ w)
