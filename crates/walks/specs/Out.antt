-- What a function over a lent register and a lent book says: its answer, and both after it.
-- Assumes nothing.
use Rattle.std.specs.Prelude.{◌≡◌, ℕ, List}
use Rattle.ship.specs.declared.Station.{Station}

pub record Out (Y : Type 0) : Type 0 where
  pub answer : Y
  pub reg : List Station
  pub book : List ℕ

abbrev pub out : {Y : Type 0} → Y → List Station → List ℕ → Out Y
out y xs bs = record { answer = y; reg = xs; book = bs }

-- that it ended so
pub record Ends {Y : Type 0} (o : Out Y) (answer : Y) (reg : List Station) (book : List ℕ) : Type 0 where
  pub answers : answer ≡ o.answer
  pub leaves : reg ≡ o.reg
  pub writes : book ≡ o.book
