-- What a call comes to, as far as the lengths, the bytes and the watch tell.
-- Assumes nothing.
use Rattle.std.specs.Prelude.{ℕ, Bool, Result, Ok, Err, List, [], ◌∷◌, eqb}
use Rattle.laws.specs.Tests.{pick, both, either, ladder}
use Rattle.limits.specs.Limits.{slot_times, records}
use Rattle.numbers.specs.declared.Refusal.{Refusal}
use Rattle.numbers.specs.declared.Refusal.TheVariants.{OtherLength, BadSource, Repeated, OutOfRange, NoPlan}
use Rattle.message.specs.declared.Message.{Message}
use Rattle.message.specs.Message.{read_answer}
use Rattle.plan.specs.declared.Plan.{Plan}
use Rattle.ship.specs.declared.Ship.{Ship}
use Rattle.ship.specs.Ship.{own_answer}
use Rattle.book.specs.declared.Watch.{Watch}
use Rattle.book.specs.Planning.{plan_fits}
use Rattle.reporting.specs.declared.Time.{Time}
use Rattle.reporting.specs.Report.{time_fits}
use Rattle.hearing.specs.declared.Telling.{Telling}
use Rattle.hearing.specs.Station.{fair_other}
use Rattle.hearing.specs.Hear.{telling_of}
use Rattle.choosing.specs.declared.Wanted.{Wanted}
use Rattle.choosing.specs.Choosing.{ask_fits}
use Rattle.calls.specs.declared.Ask.{Ask}
use Rattle.calls.specs.declared.What.{What}
use Rattle.calls.specs.declared.What.TheVariants.{Nothing, Hear, Plan as ToPlan, Own, Choose, Report, New, Sum}
use Rattle.calls.specs.declared.told.Task.{Task}
use Rattle.calls.specs.declared.told.Task.TheVariants as task
use Rattle.calls.specs.declared.told.Case.{Case}

-- a register of n records and a book of m places have their lengths
unfoldable pub fitting : ℕ → ℕ → Bool
fitting n m = both (eqb m slot_times) (eqb n records)

unfoldable pub fit_task : Bool → Result Task Refusal → Result Task Refusal
fit_task fits t = ladder ((fits, Err OtherLength) ∷ []) t

unfoldable pub telling_task : Bool → ℕ → Telling → Result Task Refusal
telling_task fits own x =
    ladder ((fits, Err OtherLength) ∷ (fair_other x.source own, Err BadSource) ∷ (eqb x.repeat 0, Err Repeated) ∷ []) (Ok (task.Hear x))

abbrev pub received_task : Bool → ℕ → Result Message Refusal → Result Task Refusal
received_task fits own (Ok m) = telling_task fits own (telling_of m)
received_task fits own (Err r) = Err r

unfoldable pub heard_task : Bool → ℕ → List ℕ → Result Task Refusal
heard_task fits own bytes = received_task fits own (read_answer bytes)

unfoldable pub plan_task : Bool → Plan → Result Task Refusal
plan_task fits p = ladder ((fits, Err OtherLength) ∷ (plan_fits p.rate p.start, Err OutOfRange) ∷ []) (Ok (task.Plan p))

abbrev pub owned_task : Result Ship Refusal → Result Task Refusal
owned_task (Ok s) = Ok (task.Own s)
owned_task (Err r) = Err r

unfoldable pub own_task : Ship → Result Task Refusal
own_task s = owned_task (own_answer s.source s.latitude s.longitude)

-- what goes by the plan
abbrev pub by_plan : Bool → Plan → Bool → Result Task Refusal → Result Task Refusal
by_plan fits p good t =
    ladder ((fits, Err OtherLength) ∷ (plan_fits p.rate p.start, Err NoPlan) ∷ (good, Err OutOfRange) ∷ []) t

unfoldable pub choose_task : Bool → Plan → Wanted → Result Task Refusal
choose_task fits p a = by_plan fits p (ask_fits p a) (Ok (task.Choose a))

unfoldable pub report_task : Bool → Plan → Time → Result Task Refusal
report_task fits p t = by_plan fits p (time_fits t) (Ok (task.Report t))

abbrev pub task_of : Bool → Watch → List ℕ → What → Result Task Refusal
task_of fits w bytes Nothing = fit_task fits (Ok task.Nothing)
task_of fits w bytes Hear = heard_task fits w.ship.source bytes
task_of fits w bytes (ToPlan p) = plan_task fits p
task_of fits w bytes (Own s) = own_task s
task_of fits w bytes (Choose a) = choose_task fits w.channel.plan a
task_of fits w bytes (Report t) = report_task fits w.channel.plan t
task_of fits w bytes New = fit_task fits (Ok task.New)
task_of fits w bytes Sum = fit_task fits (Ok task.Sum)

-- where slots pass, the lengths are asked first
unfoldable pub told_of : ℕ → ℕ → List ℕ → Ask → Case
told_of n m bytes x =
    pick (either (eqb x.passes 0) (fitting n m))
    (record { watch = x.watch; passes = x.passes; task = task_of (fitting n m) x.watch bytes x.what })
    (record { watch = x.watch; passes = 0; task = Err OtherLength })
