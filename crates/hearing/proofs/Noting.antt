-- What is noted of a report: its rows lie in the book if what it announces does.
-- Assumes nothing.
use mathlib.Core.Path.{◌≡◌}
use Rattle.message.specs.declared.state.State.{State}
use Rattle.announcing.specs.Rows.{in_book}
use Rattle.announcing.specs.Announce.{announces, filled}
use Rattle.announcing.proofs.Filling.{few-announced, in-book-filled}

pub rows_inside : (s : State) → in_book (filled (announces s)) ≡ in_book (announces s)
rows_inside s = in-book-filled (announces s) (few-announced s)
