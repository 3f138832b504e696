-- Who holds a slot time, by the list of past events alone: no book, no places, no records.
-- Assumes nothing.
use Rattle.std.specs.Prelude.{ℕ, ◌+◌, ◌-◌, ◌*◌, ◌<◌, ◌≡◌, List, [], ◌∷◌, eqb, leb, get_or}
use Rattle.laws.specs.Tests.{pick}
use Rattle.laws.specs.Ranges.{some}
use Rattle.limits.specs.Limits.{frame_slots, slot_times}
use Rattle.book.specs.Book.{ours, place}
use Rattle.hearing.specs.Hear.{telling_in}
use Rattle.announcing.specs.declared.rows.Row.{Row}
use Rattle.announcing.specs.Rows.{marks_time, frees_time}
use Rattle.announcing.specs.Announce.{announces}
use Rattle.register.specs.State.{State, sources_in}
use Rattle.register.specs.Answers.{Said, said}
use Rattle.calls.specs.declared.What.{What}
use Rattle.calls.specs.declared.What.TheVariants.{Nothing, Hear, Plan, Own, Choose, Report, New, Sum}
use Rattle.promises.specs.Calls.{Call, answer_to, after_all}

-- ---- events

pub data Event : Type 0 where
  -- so many slots passed
  passed : ℕ → Event
  -- the station with this source was heard: it marks and frees slot times, by rows of them
  heard : ℕ → List Row → Event
  -- a slot so far ahead became ours, and in so many frames after it
  owned : ℕ → ℕ → Event
  -- a plan was set, and our marks were given up
  planned : Event

-- what the message in these bytes says
abbrev pub heard_in : List ℕ → Event
heard_in bytes = let x = telling_in bytes in heard x.source (announces x.state)

-- what has happened, after es, once this was asked and done: where our own slot lies is the first value of the answer
abbrev pub happened : What → List ℕ → List ℕ → List Event → List Event
happened Nothing bytes values es = es
happened Hear bytes values es = heard_in bytes ∷ es
happened (Plan p) bytes values es = planned ∷ es
happened (Own o) bytes values es = es
happened (Choose a) bytes values es = owned (get_or values 0 0) a.timeout ∷ es
happened (Report t) bytes values es = es
happened New bytes values es = []
happened Sum bytes values es = es

-- nothing more where it was refused
abbrev pub past_by : Said → Call → List Event → List Event
past_by a c es = pick (eqb a.number 0) (happened c.what c.bytes a.values es) es

-- the events of a row of calls since the book was new, the last one first. Which calls were refused, and where a slot of ours lies, is read off the answers: that these are
-- right is what the exact refusals and the draw are promised for
unfoldable pub past_of : List Call → List Event
past_of [] = []
past_of (c ∷ cs) = past_by (said (answer_to (after_all cs) c).answer) c (passed c.passes ∷ past_of cs)

-- ---- the holder of a slot time

pub data Who : Type 0 where
  nobody : Who
  us : Who
  station : ℕ → Who

-- a mark of the station s, which never replaces ours; a freeing by it; our giving up
unfoldable pub marked_by : ℕ → Who → Who
marked_by s nobody = station s
marked_by s us = us
marked_by s (station x) = station s

unfoldable pub freed_by : ℕ → Who → Who
freed_by s nobody = nobody
freed_by s us = us
freed_by s (station x) = pick (eqb x s) nobody (station x)

unfoldable pub given_up : Who → Who
given_up nobody = nobody
given_up us = nobody
given_up (station x) = station x

-- slot times are counted since the book was new: so many slots have passed
abbrev pub passes_in : Event → ℕ
passes_in (passed n) = n
passes_in (heard s rows) = 0
passes_in (owned d m) = 0
passes_in planned = 0

unfoldable pub time_of : List Event → ℕ
time_of [] = 0
time_of (e ∷ es) = passes_in e + time_of es

-- the time d ahead, held by y before, after a report of the station s: what its rows free is freed, and then what they mark is marked
unfoldable pub freed_in : ℕ → List Row → ℕ → Who → Who
freed_in s rows d y = pick (frees_time rows d) (freed_by s y) y

unfoldable pub reported : ℕ → List Row → ℕ → Who → Who
reported s rows d y = pick (marks_time rows d) (marked_by s (freed_in s rows d y)) (freed_in s rows d y)

-- the slot time t, held by y before, after an event at the time u
unfoldable pub after_event : Event → ℕ → ℕ → Who → Who
after_event (passed n) u t y = y
after_event (heard s rows) u t y = pick (leb u t) (reported s rows (t - u) y) y
after_event (owned d m) u t y = pick (some (λ i. eqb t (u + (d + frame_slots * i))) (m + 1)) us y
after_event planned u t y = given_up y

unfoldable pub holder_of : List Event → ℕ → Who
holder_of [] t = nobody
holder_of (e ∷ es) t = after_event e (time_of es) t (holder_of es t)

-- ---- demand 2: the holder of every slot time is the one that the list of past events gives

-- the holder number x, by the records' sources
unfoldable pub who_of : List ℕ → ℕ → Who
who_of sources x = pick (eqb x 0) nobody (pick (eqb x ours) us (station (get_or sources (x - 1) 0)))

-- who holds the slot time d ahead, in the book and the register
abbrev pub who_in : State → ℕ → Who
who_in s d = who_of (sources_in s.reg) (get_or s.book (place s.watch.present d) 0)

abbrev pub HoldersByEvents : Type 0
HoldersByEvents = (cs : List Call) (d : ℕ) → d < slot_times → who_in (after_all cs) d ≡ holder_of (past_of cs) (time_of (past_of cs) + d)
