-- The choice: the candidates of a window in what is looked at, and the slot that a draw picks.
-- Assumes nothing.
use Rattle.std.specs.Prelude.{ℕ, ◌+◌, List}
use Rattle.std.specs.declared.result.Result.{Result}
use Rattle.numbers.specs.declared.Refusal.{Refusal}
use Rattle.candidates.specs.declared.Window.{Window}
use Rattle.candidates.specs.declared.Picked.{Picked}
use Rattle.candidates.specs.Slot.{View, state_of}
use Rattle.candidates.specs.Window.{worth, candidates, picked}

-- the worth of the slot i of a window
abbrev pub worth_in : View → Window → ℕ → ℕ
worth_in v w i = worth (state_of v w.present (w.first + i) w.timeout)

unfoldable pub candidates_in : View → Window → List ℕ
candidates_in v w = candidates (worth_in v w) w.width

unfoldable pub choice : View → Window → ℕ → Result Picked Refusal
choice v w d = picked w.first (candidates_in v w) d
