-- The public calls, in the words of document 01: what each answers, and the state that it leaves. Hearing stands in hearing's specs/Hear.antt, choosing in
-- choosing's specs/Choose.antt, passing in register's specs/State.antt. A refusal leaves the state as it was.
-- Assumes nothing.
use Rattle.std.specs.Prelude.{ℕ, Bool, List, [], ◌∷◌, eqb}
use Rattle.laws.specs.Tests.{pick, either, ladder}
use Rattle.laws.specs.Counting.{sum as total}
use Rattle.limits.specs.Limits.{slot_times, records}
use Rattle.numbers.specs.declared.Refusal.TheVariants.{OtherLength, BadSource, OutOfRange, NoPlan, NotOwn}
use Rattle.plan.specs.declared.Plan.{Plan}
use Rattle.ship.specs.declared.Ship.{Ship}
use Rattle.ship.specs.Ship.{fair_source, own_place}
use Rattle.book.specs.declared.Watch.{Watch}
use Rattle.book.specs.Book.{ours, released}
use Rattle.book.specs.Planning.{plan_fits}
use Rattle.register.specs.declared.Answer.TheVariants.{Passed, Planned, Set, Report as Reported, Begun, Sum as Summed}
use Rattle.register.specs.State.{State, state_of, new_state, tallies_in, book_in, settle, passes}
use Rattle.register.specs.Answers.{Answered, answered, no, sized}
use Rattle.reporting.specs.declared.Time.{Time}
use Rattle.reporting.specs.Report.{own_at, time_out, heard_stations, sub_message, time_fits}
use Rattle.hearing.specs.Hear.{hear}
use Rattle.choosing.specs.Choose.{choose}
use Rattle.calls.specs.declared.Ask.{Ask}
use Rattle.calls.specs.declared.What.{What}
use Rattle.calls.specs.declared.What.TheVariants.{Nothing, Hear, Plan as ToPlan, Own, Choose, Report, New, Sum}

-- ---- pass: nothing is left to be done once the slots have passed

abbrev pub pass_tests : State → List (Bool × Answered)
pass_tests s = (sized s, no s OtherLength) ∷ []

unfoldable pub pass : State → Answered
pass s = ladder (pass_tests s) (answered Passed s)

-- ---- plan: all own marks are released, the present one too, and the plan is the new one

unfoldable pub planned : State → Plan → State
planned s p =
    let t = settle (released ours (book_in s) slot_times) s in
    state_of t.reg t.book
    (record { present = t.watch.present; channel = record { counts = t.watch.channel.counts; plan = p }; ship = t.watch.ship })

abbrev pub plan_tests : State → Plan → List (Bool × Answered)
plan_tests s p = (sized s, no s OtherLength) ∷ (plan_fits p.rate p.start, no s OutOfRange) ∷ []

unfoldable pub plan : State → Plan → Answered
plan s p = ladder (plan_tests s p) (answered Planned (planned s p))

-- ---- own source and position

abbrev pub owning : State → Ship → State
owning s o = state_of s.reg s.book (record { present = s.watch.present; channel = s.watch.channel; ship = o })

abbrev pub own_tests : State → Ship → List (Bool × Answered)
own_tests s o = (fair_source o.source, no s BadSource) ∷ (own_place o.latitude o.longitude, no s OutOfRange) ∷ []

unfoldable pub own : State → Ship → Answered
own s o = ladder (own_tests s o) (answered Set (owning s o))

-- ---- report: nothing changes

abbrev pub plan_in : State → Plan
plan_in s = s.watch.channel.plan

abbrev pub report_tests : State → Time → List (Bool × Answered)
report_tests s t =
    (sized s, no s OtherLength)
    ∷ (plan_fits (plan_in s).rate (plan_in s).start, no s NoPlan)
    ∷ (time_fits t, no s OutOfRange)
    ∷ (own_at s.book s.watch.present 0, no s NotOwn)
    ∷ []

-- the sub-message with the time-out; stations is the number of records with tally above 0
abbrev pub reports : State → Time → Answered
reports s t =
    let now = s.watch.present in
    answered (Reported (sub_message s.book (heard_stations (tallies_in s.reg)) now (plan_in s) t (time_out s.book now))) s

unfoldable pub report : State → Time → Answered
report s t = ladder (report_tests s t) (reports s t)

-- ---- a new book and register, and the sum of the records' tallies

unfoldable pub begin : State → Answered
begin s = ladder (pass_tests s) (answered Begun (new_state slot_times records))

unfoldable pub sum : State → Answered
sum s = ladder (pass_tests s) (answered (Summed (total (tallies_in s.reg))) s)

-- ---- what is asked

abbrev pub asked : Watch → ℕ → What → Ask
asked w n q = record { watch = w; passes = n; what = q }

abbrev pub done : What → State → List ℕ → Answered
done Nothing s bytes = pass s
done Hear s bytes = hear s bytes
done (ToPlan p) s bytes = plan s p
done (Own o) s bytes = own s o
done (Choose a) s bytes = choose s a
done (Report t) s bytes = report s t
done New s bytes = begin s
done Sum s bytes = sum s

-- n slots pass, and then this is done; where any pass, the lengths are asked first
unfoldable pub called : State → ℕ → List ℕ → What → Answered
called s n bytes q = pick (either (eqb n 0) (sized s)) (done q (passes s n) bytes) (no s OtherLength)
