-- One turn more of a fold. Assumes nothing.
use mathlib.Core.Path.{◌≡◌, refl, sym, ap, ◌∙◌}
use Prim.Native.Nat.{ℕ, suc, ◌+◌}
use native.Mathlib.Numerals.{add-one}
use Rattle.walks.specs.Folded.{folded_once, folded}

module _ {S X Y : Type 0} (s₀ : S) (a : S → ℕ → X) (b : X → Y) (c : S → X → Y → ℕ → S) where
  pub folded-none : s₀ ≡ folded s₀ a b c 0
  unfolding folded
  folded-none = refl

  pub folded-suc : (i : ℕ) → folded_once a b c i (folded s₀ a b c i) ≡ folded s₀ a b c (suc i)
  unfolding folded
  folded-suc i = refl

  -- as the code has it: what each callee gave
  pub folded_more : (i : ℕ) (s s' : S) (x : X) (y : Y) → s ≡ folded s₀ a b c i → x ≡ a s i → y ≡ b x → s' ≡ c s x y i → s' ≡ folded s₀ a b c (i + 1)
  folded_more i s s' x y es ex ey e =
      e ∙ ap (λ (z : Y). c s x z i) ey ∙ ap (λ (t : X). c s t (b t) i) ex ∙ ap (folded_once a b c i) es ∙ folded-suc i
      ∙ ap (folded s₀ a b c) (sym (add-one i))
