-- Tests, and answers that go by tests in an order.
-- Assumes nothing.
use Rattle.std.specs.Prelude.{ℕ, Bool, true, false, List, [], ◌∷◌, leb}

abbrev pub both : Bool → Bool → Bool
both true b = b
both false b = false

abbrev pub either : Bool → Bool → Bool
either true b = true
either false b = b

abbrev pub pick {ℓ} : {X : Type ℓ} → Bool → X → X → X
pick true x y = x
pick false x y = y

-- n is a to b
abbrev pub between : ℕ → ℕ → ℕ → Bool
between a b n = both (leb a n) (leb n b)

-- what the first test that does not hold gives, or x where all hold
abbrev pub ladder : {X : Type 0} → List (Bool × X) → X → X
ladder [] x = x
ladder (t ∷ ts) x = pick t.0 (ladder ts x) t.1
