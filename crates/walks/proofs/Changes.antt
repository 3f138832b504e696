-- The records of a list changed one after the other, on lists alone. Assumes nothing.
--     upto         the first i are changed by g, and the others are as they were
--     long         so many as before.        one_more     and the next one.        all          at the end each is
use mathlib.Core.Path.{◌≡◌, refl, sym, ap, ◌∙◌}
use Prim.Native.Nat.{ℕ, zero, suc, ◌+◌, ◌≤◌}
use native.Mathlib.Nat.{not-suc-le-zero, le_of_suc-le-suc}
use native.Mathlib.Numerals.{add-one}
use mathlib.Core.List.{List, [], ◌∷◌, map}
use lib.ListN.{length, set, get_or}

module _ {R : Type 0} (g : R → R) where
  abbrev pub upto : ℕ → List R → List R
  upto zero ys = ys
  upto (suc i) [] = []
  upto (suc i) (y ∷ ys) = g y ∷ upto i ys

  pub long : (i : ℕ) (ys : List R) → length (upto i ys) ≡ length ys
  long zero ys = refl
  long (suc i) [] = refl
  long (suc i) (y ∷ ys) = ap suc (long i ys)

  next : (i : ℕ) (ys : List R) (d : R) → set (upto i ys) i (g (get_or (upto i ys) i d)) ≡ upto (suc i) ys
  next zero [] d = refl
  next zero (y ∷ ys) d = refl
  next (suc i) [] d = refl
  next (suc i) (y ∷ ys) d = ap (λ (zs : List R). g y ∷ zs) (next i ys d)

  -- as the code has it: zs is the list by now, and r what g gave
  pub one_more : (i : ℕ) (ys zs : List R) (d r : R) → zs ≡ upto i ys → r ≡ g (get_or zs i d) → set zs i r ≡ upto (i + 1) ys
  one_more i ys zs d r is e =
      ap (set zs i) e ∙ ap (λ (ts : List R). set ts i (g (get_or ts i d))) is ∙ next i ys d ∙ ap (λ (j : ℕ). upto j ys) (sym (add-one i))

  pub all : (i : ℕ) (ys : List R) → length ys ≤ i → upto i ys ≡ map g ys
  all zero [] l = refl
  all zero (y ∷ ys) l = absurd (not-suc-le-zero l)
  all (suc i) [] l = refl
  all (suc i) (y ∷ ys) l = ap (λ (zs : List R). g y ∷ zs) (all i ys (le_of_suc-le-suc l))
