-- Laws for every loop that counts i up from 0 and makes its state s into f s i at each turn.
-- Assumes nothing.
use mathlib.Core.Path.{◌≡◌, refl, ◌∙◌}
use Prim.Native.Nat.{ℕ, zero, suc, ◌+◌, ◌<◌}
use native.Mathlib.Nat.{le_refl, le_trans, le-suc}
use native.Mathlib.Numerals.{add-one}
use Rattle.laws.specs.Loops.{upto}

module _ {A : Type 0} (f : A → ℕ → A) (a : A) where
  pub upto-none : a ≡ upto f a 0
  unfolding upto
  upto-none = refl

  -- t is the state after the turn k, as a callee ensures it
  pub upto-more : (k : ℕ) (s t : A) → s ≡ upto f a k → t ≡ f s k → t ≡ upto f a (k + 1)
  unfolding upto
  upto-more k s t e p = p ∙ rw (e, add-one)

  -- what each turn keeps holds at the end
  pub upto-keeps : (P : A → Type 0) (n : ℕ) → ((s : A) (k : ℕ) → k < n → P s → P (f s k)) → P a → P (upto f a n)
  unfolding upto
  upto-keeps P zero keep p = p
  upto-keeps P (suc n) keep p = keep (upto f a n) n (le_refl (suc n)) (upto-keeps P n (λ s k l. keep s k (le_trans l (le-suc n))) p)
