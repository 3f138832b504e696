-- The numbers below n, or from i on: how many pass a test, which, whether some or all do, and the smallest value of a function on them.
-- Assumes nothing.
use Rattle.std.specs.Prelude.{ℕ, zero, suc, ◌+◌, min, Bool, true, false, List, [], ◌∷◌}
use Rattle.laws.specs.Tests.{pick, both, either}
use Rattle.laws.specs.Counting.{one}

-- how many of the numbers below n pass the test p
unfoldable pub how_many : (ℕ → Bool) → ℕ → ℕ
how_many p zero = 0
how_many p (suc n) = how_many p n + one (p n)

-- those of the n numbers from i on that pass the test p, in their order
unfoldable pub those : (ℕ → Bool) → ℕ → ℕ → List ℕ
those p i zero = []
those p i (suc n) = pick (p i) (i ∷ those p (suc i) n) (those p (suc i) n)

-- some number below n passes, every number below n passes, the smallest of f below n (top where n is 0)
unfoldable pub some : (ℕ → Bool) → ℕ → Bool
some p zero = false
some p (suc n) = either (some p n) (p n)

unfoldable pub every : (ℕ → Bool) → ℕ → Bool
every p zero = true
every p (suc n) = both (every p n) (p n)

unfoldable pub least : ℕ → (ℕ → ℕ) → ℕ → ℕ
least top f zero = top
least top f (suc n) = min (least top f n) (f n)
