-- One record that follows what was done to a slot time; slots that pass before the hold-offs fall.
-- Assumes nothing.
use Rattle.std.specs.Prelude.{ℕ, ◌%◌, List, eqb, get_or, set}
use Rattle.laws.specs.Tests.{pick}
use Rattle.laws.specs.Loops.{upto}
use Rattle.limits.specs.Limits.{slot_times, hold_off}
use Rattle.ship.specs.declared.Station.{Station}
use Rattle.ship.specs.Ship.{blank}
use Rattle.book.specs.declared.Counts.{Counts}
use Rattle.book.specs.Book.{ours, is_record, record_at, raised, lowered, put_at}
use Rattle.register.specs.declared.Turn.{Turn}
use Rattle.register.specs.State.{State, book_in, with_tally, with_hold, settle, moved_on}

-- before the first slot time of a run
abbrev pub begun : Counts → ℕ → ℕ → Turn
begun c at left = record { handing = record { counts = c; old = 0; new = 0 }; at = at; left = left; marks = 0 }

-- one less, and held off where the slot time became ours; a holder without a record changes nothing
unfoldable pub less_by : Station → Turn → Station
less_by r t =
    pick (is_record t.handing.old)
    (with_hold (with_tally r (lowered r.tally)) (pick (eqb t.handing.new ours) hold_off r.hold)) r

-- one more
unfoldable pub more_by : Station → Turn → Station
more_by r t = pick (is_record t.handing.new) (with_tally r (raised r.tally)) r

-- the register once the record that lost has followed, and once the one that got has
abbrev pub lost_in : List Station → Turn → List Station
lost_in reg t = set reg (record_at t.handing.old) (less_by (get_or reg (record_at t.handing.old) blank) t)

abbrev pub won_in : List Station → Turn → List Station
won_in reg t = set reg (record_at t.handing.new) (more_by (get_or reg (record_at t.handing.new) blank) t)

-- one slot, and n slots, that pass before the hold-offs fall
unfoldable pub slid_one : State → State
slid_one s = moved_on (settle (put_at (book_in s) (s.watch.present % slot_times) 0) s)

abbrev pub slid : State → ℕ → State
slid = upto (λ s i. slid_one s)
