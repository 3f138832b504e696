-- Exclusive or of numbers, under a shut name, so that terms stay small and `_` is found; and what is linear in it.
-- Assumes nothing.
use mathlib.Core.Path.{◌≡◌, refl, sym, ap, ap₂, ◌∙◌}
use Prim.Native.Nat.{ℕ, zero, suc, ◌-◌, ◌*◌, ◌/◌, ◌%◌, ◌^◌, ◌<◌}
use native.Mathlib.Nat.{add-zero}
use native.Mathlib.Decide.{dec_lt}
use native.Mathlib.Omega.{arith}
use lib.Dec.{T, eqb}
use lib.Bits.{bit_xor, xor_zero_r, xor_comm, xor_self, xor_lt, xor_block, xor_shr, xor_mod, xor_shifted}
use Rattle.std.specs.Int.Bits.{xor_assoc}
use borrow.Author.Tests.{eqb-true}
use Rattle.laws.proofs.Tests.{is_true}
use Rattle.laws.proofs.Table.{all_below, below}

unfoldable pub xor : ℕ → ℕ → ℕ
xor a b = bit_xor a b

pub fits : (k a b : ℕ) → a < 2 ^ k → b < 2 ^ k → xor a b < 2 ^ k
unfolding xor
fits k a b ha hb = xor_lt k a b ha hb

pub comm : (a b : ℕ) → xor a b ≡ xor b a
unfolding xor
comm a b = xor_comm a b

pub zero-r : (a : ℕ) → xor a 0 ≡ a
unfolding xor
zero-r a = xor_zero_r a

pub zero-l : (a : ℕ) → xor 0 a ≡ a
zero-l a = comm 0 a ∙ zero-r a

self : (a : ℕ) → xor a a ≡ 0
unfolding xor
self a = xor_self a

below_power : (n : ℕ) → n < 2 ^ n
below_power zero = omega arith
below_power (suc n) = omega (arith, below_power n)

assoc : (a b c : ℕ) → xor (xor a b) c ≡ xor a (xor b c)
unfolding xor
assoc a b c = xor_assoc a b c

pub swap : (a b c d : ℕ) → xor (xor a b) (xor c d) ≡ xor (xor a c) (xor b d)
swap a b c d =
    assoc a b (xor c d) ∙ ap (xor a) (sym (assoc b c d) ∙ ap (λ (x : ℕ). xor x d) (comm b c) ∙ assoc c b d) ∙ sym (assoc a c (xor b d))

-- ---- linear

pub record Linear (f : ℕ → ℕ) : Type 0 where
  pub law : (a b : ℕ) → f (xor a b) ≡ xor (f a) (f b)

-- k places up, and w places are kept
pub up-linear : (w k : ℕ) → Linear (λ x. x * 2 ^ k % 2 ^ w)
unfolding xor
up-linear w k = record { law = law }
  where
    law : (a b : ℕ) → bit_xor a b * 2 ^ k % 2 ^ w ≡ bit_xor (a * 2 ^ k % 2 ^ w) (b * 2 ^ k % 2 ^ w)
    law a b =
        let h = below_power k in
        let e = xor_block k a b 0 0 (omega arith) (omega arith) in
        let z : bit_xor (a * 2 ^ k) (b * 2 ^ k) ≡ bit_xor a b * 2 ^ k = rw (add-zero (a * 2 ^ k), add-zero (b * 2 ^ k), add-zero (bit_xor a b * 2 ^ k)) at e in
        ap (λ (x : ℕ). x % 2 ^ w) (sym z) ∙ xor_mod (a * 2 ^ k) (b * 2 ^ k) w

pub down-linear : (k : ℕ) → Linear (λ x. x / 2 ^ k)
unfolding xor
down-linear k = record { law = λ a b. xor_shr a b k }

pub same-linear : Linear (λ x. x)
same-linear = record { law = λ a b. refl }

pub sum-linear : {f g : ℕ → ℕ} → Linear f → Linear g → Linear (λ x. xor (f x) (g x))
sum-linear {f} {g} F G = record { law = λ a b. ap₂ xor (F.law a b) (G.law a b) ∙ swap (f a) (f b) (g a) (g b) }

pub then-linear : {f g : ℕ → ℕ} → Linear f → Linear g → Linear (λ x. g (f x))
then-linear {f} {g} F G = record { law = λ a b. ap g (F.law a b) ∙ G.law (f a) (f b) }

-- two that agree at each single bit agree: one computed test
module _ {f g : ℕ → ℕ} (F : Linear f) (G : Linear g) where
  at_zero : f 0 ≡ g 0
  at_zero = ap f (sym (self 0)) ∙ F.law 0 0 ∙ self (f 0) ∙ sym (ap g (sym (self 0)) ∙ G.law 0 0 ∙ self (g 0))

  one_more : (n x : ℕ) → f (2 ^ n) ≡ g (2 ^ n) → ((y : ℕ) → y < 2 ^ n → f y ≡ g y) → x < 2 ^ suc n → Dec (x < 2 ^ n) → f x ≡ g x
  unfolding xor
  one_more n x e h l (yes m) = h x m
  one_more n x e h l (no m) =
      let y = x - 2 ^ n in
      let o : 2 ^ n ≡ 1 * 2 ^ n = omega arith in
      let s : x ≡ xor (2 ^ n) y = sym (ap (λ (z : ℕ). xor z y) o ∙ xor_shifted 1 n y (omega arith) ∙ omega arith) in
      ap f s ∙ F.law (2 ^ n) y ∙ ap₂ xor e (h y (omega arith)) ∙ sym (ap g s ∙ G.law (2 ^ n) y)

  all-agree : (n : ℕ) → ((i : ℕ) → i < n → f (2 ^ i) ≡ g (2 ^ i)) → (x : ℕ) → x < 2 ^ n → f x ≡ g x
  all-agree zero h x l = let e : x ≡ 0 = omega arith in ap f e ∙ at_zero ∙ sym (ap g e)
  all-agree (suc n) h x l = one_more n x (h n (omega arith)) (all-agree n (λ i m. h i (omega arith))) l (dec_lt x (2 ^ n))

  pub agree : (n : ℕ) → T (all_below (λ i. eqb (f (2 ^ i)) (g (2 ^ i))) n) → (x : ℕ) → x < 2 ^ n → f x ≡ g x
  agree n t = all-agree n (λ i m. eqb-true _ _ (is_true (below (λ j. eqb (f (2 ^ j)) (g (2 ^ j))) n t i m)))
