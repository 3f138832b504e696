-- Two's complement: the number and its bits go back and forth; and what `signed` and `unsigned` compute.
-- Assumes nothing.
use mathlib.Core.Path.{◌≡◌, refl, sym, ap, ◌∙◌}
use mathlib.Core.Bool.{true, false}
use Prim.Native.Nat.{ℕ, zero, suc, ◌-◌, ◌*◌, ◌%◌, ◌^◌, ◌≤◌, ◌<◌}
use native.Mathlib.Decide.{dec_lt}
use native.Mathlib.Nat.{one-mul, pow-suc}
use native.Mathlib.Numerals.{sub-one}
use native.Mathlib.Omega.{arith}
use borrow.Author.Tests.{lt-ltb, le-ltb, ltb-true}
use lib.Dec.{T}
use lib.IntN.{ℤ, pos, negsuc, ◌-ℤ◌, nat_abs}
use lib.Pow.{pow_mono, shl_exact}
use lib.Signed.{mag, lt_z, non_neg, pos-nat_abs}
use mir.Facts.{to_z-of_z, to_z_pos}
use mir.Syntax.{w32}
use mir.Val.{SFits, to_z, of_z}
use Rattle.laws.proofs.Signs.{under, plain-nonneg}
use Rattle.message.specs.Signs.{signed_of, unsigned_of}

twice : (w : ℕ) → 1 ≤ w → 2 ^ w ≡ 2 ^ (w - 1) * 2
twice zero h = absurd (omega arith)
twice (suc w) h = rw (sub-one (suc w)) (pow-suc 2 w)

-- ---- by cases

signed_low : (w v : ℕ) → v < 2 ^ (w - 1) → signed_of w v ≡ pos v
unfolding signed_of
signed_low w v l = simp (lt-ltb v (2 ^ (w - 1)) l)

signed_high : (w v : ℕ) → 2 ^ (w - 1) ≤ v → signed_of w v ≡ negsuc (2 ^ w - 1 - v)
unfolding signed_of
signed_high w v l = simp (le-ltb v (2 ^ (w - 1)) l)

pos-in : (w n : ℕ) → n < 2 ^ (w - 1) → unsigned_of w (pos n) ≡ n
unfolding unsigned_of
pos-in w n l = simp (lt-ltb n (2 ^ (w - 1)) l)

pos-out : (w n : ℕ) → 2 ^ (w - 1) ≤ n → unsigned_of w (pos n) ≡ 2 ^ w
unfolding unsigned_of
pos-out w n l = simp (le-ltb n (2 ^ (w - 1)) l)

neg-in : (w n : ℕ) → n < 2 ^ (w - 1) → unsigned_of w (negsuc n) ≡ 2 ^ w - 1 - n
unfolding unsigned_of
neg-in w n l = simp (lt-ltb n (2 ^ (w - 1)) l)

neg-out : (w n : ℕ) → 2 ^ (w - 1) ≤ n → unsigned_of w (negsuc n) ≡ 2 ^ w
unfolding unsigned_of
neg-out w n l = simp (le-ltb n (2 ^ (w - 1)) l)

-- ---- back and forth

pub unsigned_signed : (w v : ℕ) → 1 ≤ w → v < 2 ^ w → unsigned_of w (signed_of w v) ≡ v
unsigned_signed w v h l = go (dec_lt v (2 ^ (w - 1)))
  where
    go : Dec (v < 2 ^ (w - 1)) → unsigned_of w (signed_of w v) ≡ v
    go (yes k) = ap (unsigned_of w) (signed_low w v k) ∙ pos-in w v k
    go (no k) =
        ap (unsigned_of w) (signed_high w v (omega arith)) ∙ neg-in w (2 ^ w - 1 - v) (omega (arith, twice w h)) ∙ omega arith

-- what has no bits in w has 2 ^ w in their place, so the bound says that z has
pub signed-unsigned : (w : ℕ) (z : ℤ) → 1 ≤ w → unsigned_of w z < 2 ^ w → signed_of w (unsigned_of w z) ≡ z
signed-unsigned w (pos n) h l = go (dec_lt n (2 ^ (w - 1)))
  where
    go : Dec (n < 2 ^ (w - 1)) → signed_of w (unsigned_of w (pos n)) ≡ pos n
    go (yes k) = ap (signed_of w) (pos-in w n k) ∙ signed_low w n k
    go (no k) = absurd (omega (arith, l, pos-out w n (omega arith)))
signed-unsigned w (negsuc n) h l = go (dec_lt n (2 ^ (w - 1)))
  where
    go : Dec (n < 2 ^ (w - 1)) → signed_of w (unsigned_of w (negsuc n)) ≡ negsuc n
    go (yes k) =
        ap (signed_of w) (neg-in w n k) ∙ signed_high w (2 ^ w - 1 - n) (omega (arith, twice w h)) ∙ ap negsuc (omega (arith, twice w h))
    go (no k) = absurd (omega (arith, l, neg-out w n (omega arith)))

-- ---- in 32 bits

pow-31 : (w : ℕ) → w < 32 → 2 ^ w ≤ 2 ^ 31
pow-31 w h = pow_mono {j = 31} (omega arith)

pub signed-fits : (w v : ℕ) → w < 32 → v < 2 ^ w → SFits w32 (signed_of w v)
signed-fits w v h l = go (dec_lt v (2 ^ (w - 1)))
  where
    go : Dec (v < 2 ^ (w - 1)) → SFits w32 (signed_of w v)
    go (yes k) = rw (signed_low w v k) (record { sfits = omega (arith, pow-31 w h) })
    go (no k) = rw (signed_high w v (omega arith)) (record { sfits = omega (arith, pow-31 w h) })

shifted : (w : ℕ) → w < 32 → 1 * 2 ^ w % 2 ^ 32 ≡ 2 ^ w
shifted w h = shl_exact 1 w 32 (omega arith) (omega arith) ∙ one-mul (2 ^ w)

-- ---- what `signed` computes

-- -1 - n
module _ (w v : ℕ) (here : (1 ≤ w) × (w < 32) × (v < 2 ^ w)) where
  half_is : 1 * 2 ^ (w - 1) % 2 ^ 32 ≡ 2 ^ (w - 1)
  half_is = shifted (w - 1) (omega (arith, here.1))

  pub low_fits : SFits w32 (pos v)
  low_fits = record { sfits = omega (arith, here.2, pow-31 w here.1) }

  pub low-is : v < 1 * 2 ^ (w - 1) % 2 ^ 32 → to_z w32 v ≡ signed_of w v
  low-is l = to_z_pos w32 low_fits.sfits ∙ sym (signed_low w v (omega (arith, l, half_is)))

  pub high_fits : SFits w32 (pos (1 * 2 ^ w % 2 ^ 32 - 1 - v))
  high_fits = record { sfits = omega (arith, shifted w here.1, pow-31 w here.1) }

  module _ (l : 1 * 2 ^ (w - 1) % 2 ^ 32 ≤ v) where
    high_is : to_z w32 (2 ^ 32 - 1) -ℤ to_z w32 (1 * 2 ^ w % 2 ^ 32 - 1 - v) ≡ signed_of w v
    high_is =
        ap (λ (z : ℤ). negsuc 0 -ℤ z) (to_z_pos w32 high_fits.sfits) ∙ under (1 * 2 ^ w % 2 ^ 32 - 1 - v)
        ∙ ap (λ (p : ℕ). negsuc (p - 1 - v)) (shifted w here.1) ∙ sym (signed_high w v (omega (arith, l, half_is)))

    pub high-result : SFits w32 (to_z w32 (2 ^ 32 - 1) -ℤ to_z w32 (1 * 2 ^ w % 2 ^ 32 - 1 - v))
    high-result = rw high_is (signed-fits w v here.1 here.2)

    pub high-returns : to_z w32 (of_z w32 (to_z w32 (2 ^ 32 - 1) -ℤ to_z w32 (1 * 2 ^ w % 2 ^ 32 - 1 - v))) ≡ signed_of w v
    high-returns = to_z-of_z high-result ∙ high_is

-- ---- what `unsigned` computes: n of a number that is n or -1 - n, and its bits

over : (z : ℤ) → lt_z z (pos 0) ≡ true → negsuc 0 -ℤ z ≡ pos (mag z)
over (pos n) e = absurd (omega (arith, ltb-true n 0 e))
over (negsuc n) e = simp (le-ltb (suc n) 1 (omega arith)) (ap pos (omega arith))

negsuc-mag : (z : ℤ) → lt_z z (pos 0) ≡ true → negsuc (mag z) ≡ z
negsuc-mag (pos n) e = absurd (omega (arith, ltb-true n 0 e))
negsuc-mag (negsuc n) e = refl

module _ (x : ℤ) (f : SFits w32 x) where
  module _ (e : lt_z (to_z w32 (of_z w32 x)) (pos 0) ≡ true) where
    below : lt_z x (pos 0) ≡ true
    below = rw (to_z-of_z f) at e

    neg_is : to_z w32 (2 ^ 32 - 1) -ℤ to_z w32 (of_z w32 x) ≡ pos (mag x)
    neg_is = ap (λ (z : ℤ). negsuc 0 -ℤ z) (to_z-of_z f) ∙ over x below

    pub neg-result : SFits w32 (to_z w32 (2 ^ 32 - 1) -ℤ to_z w32 (of_z w32 x))
    neg-result = rw neg_is (record { sfits = f.sfits })

    neg-back : to_z w32 (of_z w32 (to_z w32 (2 ^ 32 - 1) -ℤ to_z w32 (of_z w32 x))) ≡ pos (mag x)
    neg-back = to_z-of_z neg-result ∙ neg_is

    pub neg-read : negsuc (nat_abs (to_z w32 (of_z w32 (to_z w32 (2 ^ 32 - 1) -ℤ to_z w32 (of_z w32 x))))) ≡ x
    neg-read = ap (λ (z : ℤ). negsuc (nat_abs z)) neg-back ∙ negsuc-mag x below

  module _ (e : lt_z (to_z w32 (of_z w32 x)) (pos 0) ≡ false) where
    some : T (non_neg (to_z w32 (of_z w32 x)))
    some = plain-nonneg (to_z w32 (of_z w32 x)) e

    pub pos-read : pos (nat_abs (to_z w32 (of_z w32 x))) ≡ x
    pos-read = pos-nat_abs (to_z w32 (of_z w32 x)) some ∙ to_z-of_z f

module _ (w n : ℕ) (here : (1 ≤ w) × (w < 32)) where
  module _ (l : n < 1 * 2 ^ (w - 1) % 2 ^ 32) where
    inside : n < 2 ^ (w - 1)
    inside = omega (arith, l, shifted (w - 1) (omega (arith, here.1)))

    pub neg-in-is : 1 * 2 ^ w % 2 ^ 32 - 1 - n ≡ unsigned_of w (negsuc n)
    neg-in-is = ap (λ (p : ℕ). p - 1 - n) (shifted w here.1) ∙ sym (neg-in w n inside)

    pub pos-in-is : n ≡ unsigned_of w (pos n)
    pos-in-is = sym (pos-in w n inside)

  module _ (l : 1 * 2 ^ (w - 1) % 2 ^ 32 ≤ n) where
    outside : 2 ^ (w - 1) ≤ n
    outside = omega (arith, l, shifted (w - 1) (omega (arith, here.1)))

    pub neg-out-is : 1 * 2 ^ w % 2 ^ 32 ≡ unsigned_of w (negsuc n)
    neg-out-is = shifted w here.1 ∙ sym (neg-out w n outside)

    pub pos-out-is : 1 * 2 ^ w % 2 ^ 32 ≡ unsigned_of w (pos n)
    pos-out-is = shifted w here.1 ∙ sym (pos-out w n outside)
