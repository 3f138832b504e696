-- What becomes of a record: source, kind, position and hold-off. Its tally is a count, and stands in Tallies.antt.
-- Assumes nothing.
use Rattle.std.specs.Prelude.{ℕ, ◌+◌, ◌-◌, ◌*◌, ◌<◌, ◌≡◌, Bool, true, List, [], ◌∷◌, eqb, ℤ, get_or}
use Rattle.laws.specs.Tests.{pick}
use Rattle.laws.specs.Ranges.{some}
use Rattle.limits.specs.Limits.{frame_slots, records, hold_off}
use Rattle.ship.specs.declared.Station.{Station}
use Rattle.ship.specs.Ship.{blank}
use Rattle.candidates.specs.Slot.{holder_at}
use Rattle.hearing.specs.declared.Telling.{Telling}
use Rattle.hearing.specs.Hear.{telling_in, record_for, entered}
use Rattle.register.specs.State.{State, with_tally, with_hold, passes}
use Rattle.register.specs.Answers.{Said, said, sized}
use Rattle.calls.specs.declared.What.{What}
use Rattle.calls.specs.declared.What.TheVariants.{Nothing, Hear, Plan, Own, Choose, Report, New, Sum}
use Rattle.promises.specs.Calls.{Call, answer_to, after_call, after_all}

-- the record k, counted from 0, without its tally
abbrev pub record_of : State → ℕ → Station
record_of s k = with_tally (get_or s.reg k blank) 0

-- ---- any call on any register and book that have their lengths

-- the record k holds one of the times that become ours: those of the slot x ahead, in m + 1 frames
abbrev pub is_replaced : State → ℕ → ℕ → ℕ → Bool
is_replaced s x m k = some (λ i. eqb (holder_at s.book s.watch.present (x + frame_slots * i)) (k + 1)) (m + 1)

-- the record k, which is r in s, once this was asked and done. Heard: the station's record has its source, kind and position, and hold-off 0 where it was another's.
-- Chosen: held off where a mark of its was replaced
abbrev pub done_to : What → List ℕ → List ℕ → State → ℕ → Station → Station
done_to Nothing bytes values s k r = r
done_to Hear bytes values s k r = pick (eqb k (record_for s.reg (telling_in bytes).source)) (entered (telling_in bytes) r) r
done_to (Plan p) bytes values s k r = r
done_to (Own o) bytes values s k r = r
done_to (Choose a) bytes values s k r = pick (is_replaced s (get_or values 0 0) a.timeout k) (with_hold r hold_off) r
done_to (Report t) bytes values s k r = r
done_to New bytes values s k r = blank
done_to Sum bytes values s k r = r

-- .. or refused
abbrev pub becomes : Said → Call → State → ℕ → Station → Station
becomes a c s k r = pick (eqb a.number 0) (done_to c.what c.bytes a.values s k r) r

-- its hold-off is one less for each slot that passes, and then it is what the call makes of it
abbrev pub RecordByCall : Type 0
RecordByCall =
    (s : State) (c : Call) (k : ℕ) → sized s ≡ true → k < records
    → let r = record_of s k in
    record_of (after_call s c) k ≡ becomes (said (answer_to s c).answer) c (passes s c.passes) k (with_hold r (r.hold - c.passes))

-- ---- any row of calls: the last message decides

pub record Told : Type 0 where
  pub base : Bool
  pub latitude : ℤ
  pub longitude : ℤ

-- what is known of a station by its record, and by a message
abbrev pub known_by : Station → Told
known_by r = record { base = r.base; latitude = r.latitude; longitude = r.longitude }

abbrev pub told_by : Telling → Told
told_by x = record { base = x.base; latitude = x.latitude; longitude = x.longitude }

-- what is known of the source x, t before, once this was asked and done
abbrev pub told_then : What → List ℕ → ℕ → Told → Told
told_then Nothing bytes x t = t
told_then Hear bytes x t = pick (eqb (telling_in bytes).source x) (told_by (telling_in bytes)) t
told_then (Plan p) bytes x t = t
told_then (Own o) bytes x t = t
told_then (Choose a) bytes x t = t
told_then (Report r) bytes x t = t
told_then New bytes x t = known_by blank
told_then Sum bytes x t = t

-- by the last message of x that was heard since the book was new
unfoldable pub last_told : List Call → ℕ → Told
last_told [] x = known_by blank
last_told (c ∷ cs) x = pick (eqb (said (answer_to (after_all cs) c).answer).number 0) (told_then c.what c.bytes x (last_told cs x)) (last_told cs x)

abbrev pub LastMessageDecides : Type 0
LastMessageDecides =
    (cs : List Call) (k : ℕ) → k < records
    → let r = record_of (after_all cs) k in
    0 < r.source → known_by r ≡ last_told cs r.source
