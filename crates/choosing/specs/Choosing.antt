-- Choosing: what is asked, the window meant, and what comes of the draw.
-- Assumes nothing.
use Rattle.std.specs.Prelude.{ℕ, ◌+◌, ◌%◌, Bool, List, ltb, Err}
use Rattle.std.specs.declared.result.Result.{Result}
use Rattle.laws.specs.Tests.{pick, both, between}
use Rattle.laws.specs.Ranges.{some}
use Rattle.limits.specs.Limits.{frame_slots, least_time_out, most_time_out}
use Rattle.numbers.specs.declared.Refusal.{Refusal}
use Rattle.numbers.specs.declared.Refusal.TheVariants.{WindowTaken}
use Rattle.ship.specs.declared.Station.{Station}
use Rattle.plan.specs.declared.Plan.{Plan}
use Rattle.plan.specs.Plan.{first, onward, slots as window_slots}
use Rattle.book.specs.declared.Watch.{Watch}
use Rattle.candidates.specs.declared.Window.{Window}
use Rattle.candidates.specs.declared.Picked.{Picked}
use Rattle.candidates.specs.Slot.{View, is_own, holder_at}
use Rattle.candidates.specs.Choice.{choice}
use Rattle.choosing.specs.declared.Wanted.{Wanted}

-- k is one of the plan's windows, and the time-out is 3 to 7 (a draw is a number of 16 bits)
unfoldable pub ask_fits : Plan → Wanted → Bool
ask_fits p a = both (ltb a.k p.rate) (between least_time_out most_time_out a.timeout)

-- the window meant: the one of k whose first slot is 1 to 2250 ahead
unfoldable pub window_meant : ℕ → Plan → ℕ → ℕ → Window
window_meant present p k m =
    record { present = present; first = onward (present % frame_slots) (first p k); width = window_slots p; timeout = m }

-- the one of what is asked
abbrev pub window_of : Watch → Wanted → Window
window_of w a = window_meant w.present w.channel.plan a.k a.timeout

-- it has an own mark
unfoldable pub any_own : List ℕ → Window → Bool
any_own slots v = some (λ i. is_own (holder_at slots v.present (v.first + i))) v.width

-- what is looked at
abbrev pub view_of : List Station → List ℕ → Watch → View
view_of reg slots w = record { ship = w.ship; reg = reg; slots = slots }

-- what comes of the draw: nothing is drawn where the window has an own mark
unfoldable pub picked_in : List Station → List ℕ → Watch → Wanted → Result Picked Refusal
picked_in reg slots w a = pick (any_own slots (window_of w a)) (Err WindowTaken) (choice (view_of reg slots w) (window_of w a) a.draw)
