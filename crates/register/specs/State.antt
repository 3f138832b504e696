-- The state that the calls go on, and what becomes of it where something is done to the book.
-- Assumes nothing.
use Rattle.std.specs.Prelude.{ℕ, ◌+◌, ◌-◌, ◌%◌, List, [], ◌∷◌, map, get_or, set, replicate}
use Rattle.laws.specs.Tests.{pick}
use Rattle.laws.specs.Loops.{upto}
use Rattle.limits.specs.Limits.{slot_times, hold_off}
use Rattle.ship.specs.declared.Station.{Station}
use Rattle.ship.specs.Ship.{blank}
use Rattle.book.specs.declared.Counts.{Counts}
use Rattle.book.specs.declared.Watch.{Watch}
use Rattle.book.specs.Book.{Book, ours, is_record, book_of, tallies_of, counts_of, holder, put_at}
use Rattle.book.specs.Watch.{new_watch}

-- what the calls are lent and given
pub record State : Type 0 where
  pub reg : List Station
  pub book : List ℕ
  pub watch : Watch

abbrev pub state_of : List Station → List ℕ → Watch → State
state_of reg book w = record { reg = reg; book = book; watch = w }

-- a new register of m records and a new book of n slot times; the sizes are arguments, so that no proof writes the lists out
unfoldable pub new_state : ℕ → ℕ → State
new_state n m = state_of (replicate m blank) (replicate n 0) new_watch

-- ---- the book of a state

abbrev pub tallies_in : List Station → List ℕ
tallies_in reg = map (λ (r : Station). r.tally) reg

abbrev pub sources_in : List Station → List ℕ
sources_in reg = map (λ (r : Station). r.source) reg

-- the slots with all tallies in one list
abbrev pub book_in : State → Book
book_in s = book_of s.book (tallies_in s.reg) s.watch.channel.counts

-- a record with another tally, or another hold-off
abbrev pub with_tally : Station → ℕ → Station
with_tally r t = record { source = r.source; base = r.base; latitude = r.latitude; longitude = r.longitude; tally = t; hold = r.hold }

abbrev pub with_hold : Station → ℕ → Station
with_hold r h = record { source = r.source; base = r.base; latitude = r.latitude; longitude = r.longitude; tally = r.tally; hold = h }

abbrev pub with_counts : Watch → Counts → Watch
with_counts w c = record { present = w.present; channel = record { counts = c; plan = w.channel.plan }; ship = w.ship }

-- each record with its tally from the list
unfoldable pub tallied : List Station → List ℕ → List Station
tallied [] ts = []
tallied (r ∷ rs) [] = r ∷ rs
tallied (r ∷ rs) (t ∷ ts) = with_tally r t ∷ tallied rs ts

-- the book's slots, tallies and counts written back into book, records and watch; nothing else changes
unfoldable pub settle : Book → State → State
settle b s = state_of (tallied s.reg (tallies_of b)) b.slots (with_counts s.watch (counts_of b))

-- ---- passing

-- now moves on by one; a now out of range is taken modulo its range
abbrev pub moved_on : State → State
moved_on s =
    state_of s.reg s.book
    (record { present = (s.watch.present % slot_times + 1) % slot_times; channel = s.watch.channel; ship = s.watch.ship })

-- each hold-off above 0 falls by n
abbrev pub aged : ℕ → State → State
aged n s = state_of (map (λ (r : Station). with_hold r (r.hold - n)) s.reg) s.book s.watch

-- the present slot becomes free and now moves on by one; each hold-off above 0 falls by 1
unfoldable pub passed : State → State
passed s = aged 1 (moved_on (settle (put_at (book_in s) (s.watch.present % slot_times) 0) s))

-- n slots, one after the other
abbrev pub passes : State → ℕ → State
passes = upto (λ s i. passed s)

-- ---- a place of ours

-- the station with the holder number h, if it is one, is held off
unfoldable pub held_off : ℕ → List Station → List Station
held_off h reg = pick (is_record h) (set reg (h - 1) (with_hold (get_or reg (h - 1) blank) hold_off)) reg

-- a place becomes our own, and the station whose mark is replaced is held off
unfoldable pub owned : State → ℕ → State
owned s at =
    let t = settle (put_at (book_in s) at ours) s in
    state_of (held_off (holder (book_in s) at) t.reg) t.book t.watch
