-- Zeros as a list of bits: how many, one list after the other, and as those of the number 0.
-- Assumes nothing.
use mathlib.Core.Path.{◌≡◌, refl, sym, ap, ◌∙◌}
use mathlib.Core.List.{List, ◌∷◌, ◌++◌, append_assoc}
use Prim.Native.Nat.{ℕ, zero, suc, ◌+◌}
use native.Mathlib.Nat.{zero-add, suc-add}
use lib.ListN.{length}
use Rattle.bits.specs.Bits.{low_first}
use Rattle.checking.specs.Check.{zeros}

pub length-zeros : (n : ℕ) → length (zeros n) ≡ n
unfolding zeros
length-zeros zero = refl
length-zeros (suc n) = ap suc (length-zeros n)

pub zeros-more : (n m : ℕ) → zeros n ++ zeros m ≡ zeros (n + m)
unfolding zeros
zeros-more zero m = rw (zero-add m)
zeros-more (suc n) m = rw (suc-add n m) (ap (λ (t : List ℕ). 0 ∷ t) (zeros-more n m))

pub zeros-add : (n m : ℕ) (xs : List ℕ) → zeros n ++ (zeros m ++ xs) ≡ zeros (n + m) ++ xs
zeros-add n m xs = sym (append_assoc (zeros n) (zeros m) xs) ∙ ap (◌++ xs) (zeros-more n m)

pub zeros-low : (n : ℕ) → low_first n 0 ≡ zeros n
unfolding low_first zeros
zeros-low zero = refl
zeros-low (suc n) = ap (λ (t : List ℕ). 0 ∷ t) (zeros-low n)
