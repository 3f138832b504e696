-- Sums f 0 + .. + f (n - 1), how many numbers pass a test as such a sum, and tests as numbers that omega reads.
-- Assumes nothing.
use mathlib.Core.Path.{◌≡◌, refl, ap, ◌∙◌}
use mathlib.Core.Bool.{Bool, true, false}
use Prim.Native.Nat.{ℕ, zero, suc, ◌+◌, ◌-◌, ◌*◌, ◌%◌, ◌≤◌, ◌<◌, min, max}
use native.Mathlib.Nat.{mul-zero, mul-suc, mod-eq_of_lt, mul-add-mod_self_left, not-suc-le-zero, add-zero, add-suc}
use native.Mathlib.Decide.{ℕ_discrete, dec_lt}
use native.Mathlib.Omega.{arith}
use borrow.Author.Tests.{lt-ltb, le-ltb}
use lib.Dec.{ltb}
use Rattle.laws.specs.Tests.{both, either}
use Rattle.laws.specs.Counting.{one}
use Rattle.laws.specs.Ranges.{how_many}

unfoldable pub sums : (ℕ → ℕ) → ℕ → ℕ
sums f zero = 0
sums f (suc n) = sums f n + f n

module _ (f g : ℕ → ℕ) where
  pub sums-ext : (n : ℕ) → ((i : ℕ) → i < n → f i ≡ g i) → sums f n ≡ sums g n
  unfolding sums
  sums-ext zero e = refl
  sums-ext (suc n) e = omega (arith, e n (omega arith), sums-ext n (λ i l. e i (omega arith)))

  pub sums-le : (n : ℕ) → ((i : ℕ) → i < n → f i ≤ g i) → sums f n ≤ sums g n
  unfolding sums
  sums-le zero e = omega arith
  sums-le (suc n) e = omega (arith, e n (omega arith), sums-le n (λ i l. e i (omega arith)))

  pub sums-add : (n : ℕ) → sums (λ i. f i + g i) n ≡ sums f n + sums g n
  unfolding sums
  sums-add zero = refl
  sums-add (suc n) = omega (arith, sums-add n)

pub sums-zero : (f : ℕ → ℕ) (n : ℕ) → ((i : ℕ) → i < n → f i ≡ 0) → sums f n ≡ 0
unfolding sums
sums-zero f zero e = refl
sums-zero f (suc n) e = omega (arith, e n (omega arith), sums-zero f n (λ i l. e i (omega arith)))

-- 1 where x is k, else 0
unfoldable pub same : ℕ → ℕ → ℕ
same x k = 1 - ((x - k) + (k - x))

pub same-yes : (x k : ℕ) → x ≡ k → same x k ≡ 1
unfolding same
same-yes x k e = omega arith

pub same-no : (x k : ℕ) → (x ≡ k → ⊥) → same x k ≡ 0
unfolding same
same-no x k n = omega arith

-- one number counts once, the others not at all
pub sums-one : (f : ℕ → ℕ) (n k : ℕ) → k < n → f k ≡ 1 → ((i : ℕ) → i < n → (i ≡ k → ⊥) → f i ≡ 0) → sums f n ≡ 1
unfolding sums
sums-one f zero k l one other = absurd (not-suc-le-zero l)
sums-one f (suc n) k l one other = go (ℕ_discrete n k) (λ m. sums-one f n k m one (λ i r. other i (omega arith)))
  where
    go : Dec (n ≡ k) → (k < n → sums f n ≡ 1) → sums f n + f n ≡ 1
    go (yes e) rest = omega (arith, ap f e, sums-zero f n (λ i m. other i (omega arith) (omega arith)))
    go (no ne) rest = omega (arith, other n (omega arith) ne, rest (omega arith))

-- the first a, and the b after them
pub sums-split : (f : ℕ → ℕ) (a b : ℕ) → sums f (a + b) ≡ sums f a + sums (λ i. f (a + i)) b
unfolding sums
sums-split f a zero = ap (sums f) (add-zero a) ∙ omega arith
sums-split f a (suc b) = ap (sums f) (add-suc a b) ∙ omega (arith, sums-split f a b)

-- the first one, and those after it
pub sums-front : (f : ℕ → ℕ) (n : ℕ) → sums f (suc n) ≡ f 0 + sums (λ i. f (suc i)) n
unfolding sums
sums-front f zero = omega arith
sums-front f (suc n) = omega (arith, sums-front f n)

-- ones add up to their number
pub sums-ones : (f : ℕ → ℕ) (n : ℕ) → ((i : ℕ) → f i ≡ 1) → sums f n ≡ n
unfolding sums
sums-ones f zero e = refl
sums-ones f (suc n) e = omega (arith, e n, sums-ones f n e)

-- among n * q numbers from 0 on, q have the remainder k
pub in_blocks : (n k q : ℕ) → k < n → sums (λ d. same (d % n) k) (n * q) ≡ q
unfolding sums
in_blocks n k zero l = ap (sums (λ d. same (d % n) k)) (mul-zero n)
in_blocks n k (suc q) l =
    ap (sums (λ d. same (d % n) k)) (mul-suc n q)
    ∙ sums-split (λ d. same (d % n) k) (n * q) n
    ∙ omega (
      arith,
      in_blocks n k q l,
      sums-ext (λ i. same ((n * q + i) % n) k) (λ i. same i k) n (λ i m. ap (λ x. same x k) (mul-add-mod_self_left n q i ∙ mod-eq_of_lt m)),
      sums-one (λ i. same i k) n k l (same-yes k k refl) (λ i m ne. same-no i k ne),
    )

pub many-sums : (p : ℕ → Bool) (n : ℕ) → how_many p n ≡ sums (λ i. one (p i)) n
unfolding sums how_many
many-sums p zero = refl
many-sums p (suc n) = omega (arith, many-sums p n)

-- ---- bits as numbers that omega reads

pub one-true : {b : Bool} → b ≡ true → one b ≡ 1
unfolding one
one-true e = rw e

pub one-false : {b : Bool} → b ≡ false → one b ≡ 0
unfolding one
one-false e = rw e

pub true-one : (b : Bool) → one b ≡ 1 → b ≡ true
unfolding one
true-one true e = refl
true-one false e = absurd (omega arith)

pub false-one : (b : Bool) → one b ≡ 0 → b ≡ false
unfolding one
false-one true e = absurd (omega arith)
false-one false e = refl

pub one-both : (a b : Bool) → one (both a b) ≡ min (one a) (one b)
unfolding one
one-both true true = refl
one-both true false = refl
one-both false true = refl
one-both false false = refl

pub one-either : (a b : Bool) → one (either a b) ≡ max (one a) (one b)
unfolding one
one-either true true = refl
one-either true false = refl
one-either false true = refl
one-either false false = refl

pub one-ltb : (a b : ℕ) → one (ltb a b) ≡ min 1 (b - a)
one-ltb a b = go (dec_lt a b)
  where
    go : Dec (a < b) → one (ltb a b) ≡ min 1 (b - a)
    go (yes l) = one-true (lt-ltb a b l) ∙ omega arith
    go (no n) = one-false (le-ltb a b (omega arith)) ∙ omega arith

pub one-le : (b : Bool) → one b ≤ 1
unfolding one
one-le true = omega arith
one-le false = omega arith
