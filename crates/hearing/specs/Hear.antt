-- Hearing a message in slot now, in the words of document 01.
-- Assumes nothing.
use Rattle.std.specs.Prelude.{ℕ, suc, Bool, true, false, List, [], ◌∷◌, eqb, ltb, pos, length, get_or, set}
use Rattle.laws.specs.Tests.{pick, between, ladder}
use Rattle.limits.specs.Limits.{records, message_bytes}
use Rattle.numbers.specs.declared.Refusal.TheVariants.{MessageLength, UnknownId, OtherLength, BadSource, Repeated, NoRecord, BeyondBook}
use Rattle.message.specs.declared.Message.{Message}
use Rattle.message.specs.declared.Message.TheVariants.{One, Two, Three, Four, Other}
use Rattle.message.specs.declared.Report.{Report}
use Rattle.message.specs.declared.Base.{Base}
use Rattle.message.specs.declared.state.State.{State as Sent}
use Rattle.message.specs.declared.state.State.TheVariants.{SelfOrganised as Organised, Incremental as Increasing}
use Rattle.message.specs.declared.state.SubMessage.TheVariants.{Offset}
use Rattle.message.specs.Message.{id_in, message_of}
use Rattle.ship.specs.declared.Station.{Station}
use Rattle.ship.specs.Ship.{blank}
use Rattle.announcing.specs.Rows.{booked, held_of, in_book}
use Rattle.announcing.specs.Announce.{announces}
use Rattle.register.specs.declared.Answer.TheVariants.{Heard}
use Rattle.register.specs.State.{State, state_of, sources_in, tallies_in, book_in, settle}
use Rattle.register.specs.Answers.{Answered, answered, no, sized}
use Rattle.hearing.specs.declared.Telling.{Telling}
use Rattle.hearing.specs.Station.{fair_other, record_of}

-- ---- what a message tells

-- messages 1 to 3 come from a mobile, message 4 from a base station
abbrev pub mobile : Report → Sent → Telling
mobile r s = record { source = r.source; repeat = r.repeat; base = false; latitude = r.latitude; longitude = r.longitude; state = s }

abbrev pub station : Base → Sent → Telling
station b s = record { source = b.source; repeat = b.repeat; base = true; latitude = b.latitude; longitude = b.longitude; state = s }

-- (another message is never heard)
abbrev pub telling_of : Message → Telling
telling_of (One r s) = mobile r (Organised s)
telling_of (Two r s) = mobile r (Organised s)
telling_of (Three r s) = mobile r (Increasing s)
telling_of (Four b s) = station b (Organised s)
telling_of Other =
    record { source = 0; repeat = 0; base = false; latitude = pos 0; longitude = pos 0; state = Organised (record { sync = 0; sub = Offset 0 }) }

abbrev pub telling_in : List ℕ → Telling
telling_in bytes = telling_of (message_of bytes)

-- ---- its station's record

-- the lowest-numbered one with its source, else the lowest-numbered with tally 0; counted from 0, and past the last where there is none
abbrev pub record_for : List Station → ℕ → ℕ
record_for reg source = record_of (sources_in reg) (tallies_in reg) source

-- source, kind and position are stored; a record that is taken over has hold-off 0
unfoldable pub entered : Telling → Station → Station
entered x r =
    record {
      source = x.source;
      base = x.base;
      latitude = x.latitude;
      longitude = x.longitude;
      tally = r.tally;
      hold = pick (eqb r.source x.source) r.hold 0;
    }

unfoldable pub stored : State → Telling → State
stored s x =
    let k = record_for s.reg x.source in
    state_of (set s.reg k (entered x (get_or s.reg k blank))) s.book s.watch

-- ---- the call

-- the station is stored, and what it announces is freed and marked for it
unfoldable pub heard : State → Telling → State
heard s x =
    let t = stored s x in
    settle (booked s.watch.present (suc (record_for s.reg x.source)) (announces x.state) (book_in t)) t

-- how many different slot times that the report marks are the station's then
unfoldable pub marks_of : State → Telling → ℕ
marks_of s x = held_of s.watch.present (suc (record_for s.reg x.source)) (heard s x).book (announces x.state)

-- what is asked of the register and the book
abbrev pub book_tests : State → Telling → List (Bool × Answered)
book_tests s x =
    (ltb (record_for s.reg x.source) records, no s NoRecord)
    ∷ (in_book (announces x.state), no s BeyondBook)
    ∷ []

unfoldable pub hear_tests : State → List ℕ → List (Bool × Answered)
hear_tests s bytes =
    let x = telling_in bytes in
    (eqb (length bytes) message_bytes, no s MessageLength)
    ∷ (between 1 4 (id_in bytes), no s UnknownId)
    ∷ (sized s, no s OtherLength)
    ∷ (fair_other x.source s.watch.ship.source, no s BadSource)
    ∷ (eqb x.repeat 0, no s Repeated)
    ∷ book_tests s x

-- what is answered where all tests hold
abbrev pub hears : State → Telling → Answered
hears s x = answered (Heard (record { source = x.source; marks = marks_of s x })) (heard s x)

-- the answer, once the message may be heard: what is asked of the register and the book, and what is answered
abbrev pub heard_answer : State → Telling → Answered
heard_answer s x = ladder (book_tests s x) (hears s x)

unfoldable pub hear : State → List ℕ → Answered
unfolding hear_tests
hear s bytes = ladder (hear_tests s bytes) (hears s (telling_in bytes))
