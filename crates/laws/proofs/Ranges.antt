-- Loops over a range, turn by turn: how many numbers pass, whether some do, the smallest value.
-- Assumes nothing.
use mathlib.Core.Path.{◌≡◌, refl, sym, ap, ◌∙◌}
use mathlib.Core.Bool.{Bool, true, false}
use Prim.Native.Nat.{ℕ, zero, suc, ◌+◌, ◌≤◌, ◌<◌}
use native.Mathlib.Decide.{ℕ_discrete}
use native.Mathlib.Numerals.{add-one}
use native.Mathlib.Omega.{arith}
use Rattle.laws.specs.Tests.{either}
use Rattle.laws.specs.Counting.{one}
use Rattle.laws.specs.Ranges.{how_many, some, least}
use Rattle.laws.proofs.Tests.{never, by-test, either_true}
use Rattle.laws.proofs.Sums.{one-le}

-- ---- how many pass

-- nothing is counted before the first turn
pub many-none : (p : ℕ → Bool) → 0 ≡ how_many p 0
unfolding how_many
many-none p = refl

-- a turn counts one where its number passes
pub many_more : (p : ℕ → Bool) (i n t : ℕ) → n ≡ how_many p i → t ≡ one (p i) → n + t ≡ how_many p (i + 1)
unfolding how_many
many_more p i n t e q = omega (arith, ap (how_many p) (add-one i))

-- no more are counted than there are
pub many-le : (p : ℕ → Bool) (n : ℕ) → how_many p n ≤ n
unfolding how_many
many-le p zero = omega arith
many-le p (suc n) = omega (arith, many-le p n, one-le (p n))

-- ---- whether some do

module _ (p : ℕ → Bool) where
  pub some-none : some p 0 ≡ false
  unfolding some
  some-none = refl

  -- one number more that does not pass
  pub some-miss : (i : ℕ) → some p i ≡ false → p i ≡ false → some p (i + 1) ≡ false
  unfolding some
  some-miss i e f = ap (some p) (add-one i) ∙ rw (e, f)

  -- one that passes is found
  pub some-hit : (i n : ℕ) → i < n → p i ≡ true → true ≡ some p n
  unfolding some
  some-hit i zero l e = absurd (omega arith)
  some-hit i (suc n) l e = go (ℕ_discrete i n) (λ m. some-hit i n m e)
    where
      go : Dec (i ≡ n) → (i < n → true ≡ some p n) → true ≡ either (some p n) (p n)
      go (yes q) h = sym (either_true (some p n)) ∙ ap (either (some p n)) (sym e ∙ ap p q)
      go (no q) h = ap (λ (b : Bool). either b (p n)) (h (omega arith))

  -- where some pass, here is one
  pub some-passes : (n : ℕ) → some p n ≡ true → (i : ℕ) × ((i < n) × (p i ≡ true))
  unfolding some
  some-passes zero e = never e
  some-passes (suc n) e =
      by-test (some p n) (λ z. let r = some-passes n z in (r.0, (omega (arith, r.1.0), r.1.1)))
      (λ z. (n, (omega arith, ap (λ (b : Bool). either b (p n)) (sym z) ∙ e)))

-- ---- the smallest value

-- the least is not above the start
pub least-le : (t : ℕ) (f : ℕ → ℕ) (n : ℕ) → least t f n ≤ t
unfolding least
least-le t f zero = omega arith
least-le t f (suc n) = omega (arith, least-le t f n)
