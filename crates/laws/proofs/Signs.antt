-- Signed numbers of 32 bits: what fits, and the number without its sign.
-- Assumes nothing.
use mathlib.Core.Path.{◌≡◌, refl, subst}
use mathlib.Core.Bool.{false}
use Prim.Native.Nat.{ℕ, zero, suc, ◌<◌}
use native.Mathlib.Nat.{zero-add}
use borrow.Author.Rules.{sfits_of}
use lib.Dec.{T}
use lib.IntN.{ℤ, pos, negsuc, ◌-ℤ◌}
use lib.Signed.{mag, lt_z, non_neg}
use mir.Facts.{to_z-of_z}
use mir.Syntax.{w32}
use mir.Val.{to_z, of_z}

-- ---- what fits

-- what fits in 32 bits, read back from them
pub back : (z : ℤ) → mag z < 2147483648 → to_z w32 (of_z w32 z) ≡ z
back z h = to_z-of_z {w = w32} (sfits_of h)

-- ---- the number without its sign

-- a number not below zero has no sign
pub plain-nonneg : (z : ℤ) → lt_z z (pos 0) ≡ false → T (non_neg z)
plain-nonneg (pos n) e = tt
plain-nonneg (negsuc n) e = subst T e tt

-- -1 - n
pub under : (n : ℕ) → negsuc 0 -ℤ pos n ≡ negsuc n
under zero = refl
under (suc n) = rw (zero-add n)
