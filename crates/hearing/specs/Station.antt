-- The station that a message comes from: whether its source can be one, and which record is its own.
-- Assumes nothing.
use Rattle.std.specs.Prelude.{ℕ, suc, Bool, not, List, [], ◌∷◌, eqb, ltb, length}
use Rattle.laws.specs.Tests.{both, pick}
use Rattle.ship.specs.Ship.{fair_source}

-- another station can have this source; `own` is ours
unfoldable pub fair_other : ℕ → ℕ → Bool
fair_other source own = both (fair_source source) (not (eqb source own))

-- where x stands first, or the length where it stands nowhere
abbrev pub index_of : ℕ → List ℕ → ℕ
index_of x [] = 0
index_of x (y ∷ l) = pick (eqb y x) 0 (suc (index_of x l))

-- the lowest record with the source, else the lowest with tally 0; past the last one where there is none
unfoldable pub record_of : List ℕ → List ℕ → ℕ → ℕ
record_of sources tallies source =
    pick (ltb (index_of source sources) (length sources)) (index_of source sources) (index_of 0 tallies)
