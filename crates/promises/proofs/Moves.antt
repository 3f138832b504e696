-- What each call does to the book with its tallies, to the sources and to the plan of a state that grew from new; proved in Passing.antt and
-- Moving.antt.
-- Assumes nothing.
use Prim.Native.Nat.{ℕ, suc, ◌+◌, ◌*◌, ◌≤◌, ◌<◌}
use mathlib.Core.Path.{◌≡◌}
use mathlib.Core.Bool.{true, false}
use mathlib.Core.List.{List}
use lib.Dec.{eqb}
use lib.ListN.{length, get_or, set}
use Rattle.laws.specs.Tests.{pick}
use Rattle.laws.specs.Loops.{upto}
use Rattle.limits.specs.Limits.{frame_slots, slot_times, records}
use Rattle.plan.specs.Plan.{InRange}
use Rattle.book.specs.Book.{Book, ours, place, put_at, released}
use Rattle.book.specs.Pass.{Moment, passes}
use Rattle.announcing.specs.Rows.{booked, in_book}
use Rattle.announcing.specs.Announce.{announces}
use Rattle.hearing.specs.declared.Telling.{Telling}
use Rattle.hearing.specs.Hear.{telling_in, record_for}
use Rattle.choosing.specs.declared.Wanted.{Wanted}
use Rattle.choosing.specs.Choosing.{any_own}
use Rattle.choosing.specs.ChoosePromises.{window_in}
use Rattle.register.specs.State.{State, new_state, book_in, sources_in}
use Rattle.register.specs.Answers.{Said}
use Rattle.calls.specs.declared.What.{What}
use Rattle.calls.specs.declared.What.TheVariants.{Nothing, Hear, Plan, Own, Choose, Report, New, Sum}
use Rattle.calls.specs.Calls.{plan_in}
use Rattle.promises.specs.Calls.{Call}

-- the lengths that document 01 gives
pub record Fine (s : State) : Type 0 where
  pub register : length s.reg ≡ records
  pub book : length s.book ≡ slot_times

-- book, sources, now and plan are as they were
pub record Stays (s s' : State) : Type 0 where
  pub book : book_in s' ≡ book_in s
  pub sources : sources_in s'.reg ≡ sources_in s.reg
  pub present : s'.watch.present ≡ s.watch.present
  pub plan : plan_in s' ≡ plan_in s

-- the book, and now
abbrev pub moment_in : State → Moment
moment_in s = record { book = book_in s; present = s.watch.present }

-- n slots have passed
pub record PassedBy (n : ℕ) (s s' : State) : Type 0 where
  pub moment : moment_in s' ≡ passes (moment_in s) n
  pub sources : sources_in s'.reg ≡ sources_in s.reg
  pub plan : plan_in s' ≡ plan_in s

-- the station's record, counted from 0
abbrev pub record_in : State → Telling → ℕ
record_in s x = record_for s.reg x.source

-- a station was heard
pub record HeardBy (x : Telling) (s s' : State) : Type 0 where
  pub known : 0 < x.source
  pub there : record_in s x < records
  pub within : in_book (announces x.state) ≡ true
  pub book : book_in s' ≡ booked s.watch.present (suc (record_in s x)) (announces x.state) (book_in s)
  pub sources : sources_in s'.reg ≡ set (sources_in s.reg) (record_in s x) x.source
  pub present : s'.watch.present ≡ s.watch.present
  pub plan : plan_in s' ≡ plan_in s

-- a plan was set
pub record PlannedBy (s s' : State) : Type 0 where
  pub ranged : InRange (plan_in s')
  pub book : book_in s' ≡ released ours (book_in s) slot_times
  pub sources : sources_in s'.reg ≡ sources_in s.reg
  pub present : s'.watch.present ≡ s.watch.present

-- the book once the slot d ahead is ours, and those a frame apart after it, n in all
abbrev pub owned_in : ℕ → ℕ → Book → ℕ → Book
owned_in present d = upto (λ b i. put_at b (place present (d + frame_slots * i)) ours)

-- a slot was chosen: one of the window meant, which had no own mark
pub record ChosenBy (a : Wanted) (d : ℕ) (s s' : State) : Type 0 where
  pub ranged : InRange (plan_in s)
  pub known : a.k < (plan_in s).rate
  pub free : any_own s.book (window_in s a) ≡ false
  pub from : (window_in s a).first ≤ d
  pub to : d < (window_in s a).first + (window_in s a).width
  pub within : d + frame_slots * a.timeout < slot_times
  pub book : book_in s' ≡ owned_in s.watch.present (d) (book_in s) (suc a.timeout)
  pub sources : sources_in s'.reg ≡ sources_in s.reg
  pub present : s'.watch.present ≡ s.watch.present
  pub plan : plan_in s' ≡ plan_in s

-- what was asked is done
abbrev pub DoneBy : What → List ℕ → List ℕ → State → State → Type 0
DoneBy Nothing bytes values s s' = Stays s s'
DoneBy Hear bytes values s s' = HeardBy (telling_in bytes) s s'
DoneBy (Plan p) bytes values s s' = PlannedBy s s'
DoneBy (Own o) bytes values s s' = Stays s s'
DoneBy (Choose a) bytes values s s' = ChosenBy a (get_or values 0 0) s s'
DoneBy (Report t) bytes values s s' = Stays s s'
DoneBy New bytes values s s' = s' ≡ new_state slot_times records
DoneBy Sum bytes values s s' = Stays s s'

-- or refused
abbrev pub MovedBy : Said → Call → State → State → Type 0
MovedBy a q s s' = pick (eqb a.number 0) (DoneBy q.what q.bytes a.values s s') (Stays s s')
