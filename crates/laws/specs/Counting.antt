-- How often a number stands in a list, how many numbers pass a test, and the sum of a list.
-- Assumes nothing.
use Rattle.std.specs.Prelude.{ℕ, ◌+◌, Bool, true, false, List, [], ◌∷◌, eqb}
use Rattle.laws.specs.Tests.{pick}

-- 1 where the test holds, else 0
unfoldable pub one : Bool → ℕ
one true = 1
one false = 0

-- 1 where x is h, else 0
unfoldable pub hit : ℕ → ℕ → ℕ
hit h x = one (eqb x h)

-- how many elements of a list are h
abbrev pub count : ℕ → List ℕ → ℕ
count h [] = 0
count h (x ∷ l) = hit h x + count h l

abbrev pub sum : List ℕ → ℕ
sum [] = 0
sum (x ∷ l) = x + sum l

-- x stands in the list
abbrev pub has : ℕ → List ℕ → Bool
has x [] = false
has x (y ∷ l) = pick (eqb x y) true (has x l)
