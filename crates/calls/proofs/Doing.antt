-- What is asked of the public calls is what the code makes of it: refused by lengths, bytes and watch, or done on what is lent.
--     done-is          what is asked is done as the tests of specs/Told.antt tell
--     passes-keep      slots that pass keep the lengths, the plan and our own ship
--     called_is        the whole call.        told-fits    what its stages need
-- Assumes nothing.
use Rattle.std.specs.Prelude.{Result, Ok, Err}
use mathlib.Core.Path.{◌≡◌, refl, sym, ap, ap₂, ◌∙◌}
use mathlib.Core.Bool.{Bool, true, false}
use mathlib.Core.List.{List, [], ◌∷◌, map}
use Prim.Native.Nat.{ℕ, ◌-◌, ◌%◌}
use native.Mathlib.Omega.{arith}
use borrow.Author.Tests.{eqb-true}
use lib.Dec.{eqb}
use lib.ListN.{length, length-map, length-set}
use Rattle.laws.specs.Tests.{pick, either, ladder}
use Rattle.laws.specs.Loops.{upto}
use Rattle.laws.proofs.Tests.{both_left, both_right, pick-of}
use Rattle.laws.proofs.Upto.{upto-keeps}
use Rattle.limits.specs.Limits.{slot_times, records}
use Rattle.numbers.specs.declared.Refusal.{Refusal}
use Rattle.numbers.specs.declared.Refusal.TheVariants.{OtherLength, BadSource, Repeated, OutOfRange, NoPlan}
use Rattle.std.specs.Prelude.{Result, Ok, Err}
use Rattle.message.specs.declared.Message.{Message}
use Rattle.message.specs.Message.{message_of, read_tests, read_answer}
use Rattle.ship.specs.declared.Station.{Station}
use Rattle.ship.specs.declared.Ship.{Ship}
use Rattle.ship.specs.Ship.{own_answer, own_tests as source_tests}
use Rattle.plan.specs.declared.Plan.{Plan as Plans}
use Rattle.book.specs.declared.Watch.{Watch}
use Rattle.book.specs.Book.{put_at, tallies_of}
use Rattle.book.specs.Planning.{plan_fits}
use Rattle.register.specs.State.{State, state_of, book_in, with_hold, tallied, settle, passed, passes}
use Rattle.register.specs.Answers.{Answered, no, out_of, sized}
use Rattle.register.proofs.Settling.{tallied-length}
use Rattle.reporting.specs.Report.{time_fits}
use Rattle.hearing.specs.Station.{fair_other}
use Rattle.hearing.specs.Hear.{telling_of, telling_in, hear_tests, hear}
use Rattle.choosing.specs.Choosing.{ask_fits}
use Rattle.choosing.specs.Choose.{choose_tests, choose}
use Rattle.calls.specs.declared.Ask.{Ask}
use Rattle.calls.specs.declared.What.{What}
use Rattle.calls.specs.declared.What.TheVariants.{Nothing, Hear, Plan as ToPlan, Own, Choose, Report, New, Sum}
use Rattle.calls.specs.declared.told.Task.{Task}
use Rattle.calls.specs.declared.told.Task.TheVariants as task
use Rattle.calls.specs.declared.told.Case.{Case}
use Rattle.calls.specs.Calls.{pass, plan, own, report, begin, sum, done, called}
use Rattle.calls.specs.Told.{
  fitting,
  fit_task,
  telling_task,
  received_task,
  heard_task,
  plan_task,
  owned_task,
  own_task,
  choose_task,
  report_task,
  task_of,
  told_of,
}
use Rattle.calls.specs.Stages.{done_task, Sized, FitTask, Fit, carried_out}

-- ---- what is asked

-- what f makes of the first answer that is given
through : {A B : Type 0} (f : A → B) (ts : List (Bool × A)) (x : A) → f (ladder ts x) ≡ ladder (map (λ (t : Bool × A). (t.0, f t.1)) ts) (f x)
through f [] x = refl
through f ((true, y) ∷ ts) x = through f ts x
through f ((false, y) ∷ ts) x = refl

-- a task that is left where each test holds, and else refused
abbrev refusing : List (Bool × Refusal) → Result Task Refusal → Result Task Refusal
refusing ts t = ladder (map (λ (x : Bool × Refusal). (x.0, Err x.1)) ts) t

module _ (s : State) where
  refusing-does : (ts : List (Bool × Refusal)) (t : Result Task Refusal) → ladder (map (λ (x : Bool × Refusal). (x.0, no s x.1)) ts) (done_task t s) ≡ done_task (refusing ts t) s
  unfolding done_task
  refusing-does [] t = refl
  refusing-does ((true, r) ∷ ts) t = refusing-does ts t
  refusing-does ((false, r) ∷ ts) t = refl

  abbrev reads : Result Message Refusal → Answered
  reads r = done_task (received_task (sized s) s.watch.ship.source r) s

pub done-is : (q : What) (s : State) (bytes : List ℕ) → done q s bytes ≡ done_task (task_of (sized s) s.watch bytes q) s
unfolding done_task pass begin sum fit_task plan plan_task own own_task own_answer source_tests choose choose_tests choose_task report report_task hear hear_tests heard_task telling_task read_answer read_tests
done-is Nothing s bytes = refusing-does s ((sized s, OtherLength) ∷ []) (Ok task.Nothing)
done-is Hear s bytes =
    let x = telling_in bytes in
    ap (ladder (map (λ (t : Bool × Result Message Refusal). (t.0, reads s t.1)) (read_tests bytes)))
    (refusing-does s ((sized s, OtherLength) ∷ (fair_other x.source s.watch.ship.source, BadSource) ∷ (eqb x.repeat 0, Repeated) ∷ []) (Ok (task.Hear x)))
    ∙ sym (through (reads s) (read_tests bytes) (Ok (message_of bytes)))
done-is (ToPlan p) s bytes = refusing-does s ((sized s, OtherLength) ∷ (plan_fits p.rate p.start, OutOfRange) ∷ []) (Ok (task.Plan p))
done-is (Own o) s bytes = sym (through (λ r. done_task (owned_task r) s) (source_tests o.source o.latitude o.longitude) (Ok o))
done-is (Choose a) s bytes =
    let p = s.watch.channel.plan in
    refusing-does s ((sized s, OtherLength) ∷ (plan_fits p.rate p.start, NoPlan) ∷ (ask_fits p a, OutOfRange) ∷ []) (Ok (task.Choose a))
done-is (Report t) s bytes =
    let p = s.watch.channel.plan in
    refusing-does s ((sized s, OtherLength) ∷ (plan_fits p.rate p.start, NoPlan) ∷ (time_fits t, OutOfRange) ∷ []) (Ok (task.Report t))
done-is New s bytes = refusing-does s ((sized s, OtherLength) ∷ []) (Ok task.New)
done-is Sum s bytes = refusing-does s ((sized s, OtherLength) ∷ []) (Ok task.Sum)

-- ---- lengths, and slots that pass

-- t has the lengths, the plan and the ship of s
pub record Alike (s t : State) : Type 0 where
  pub register : length t.reg ≡ length s.reg
  pub size : length t.book ≡ length s.book
  pub plan : t.watch.channel.plan ≡ s.watch.channel.plan
  pub ship : t.watch.ship ≡ s.watch.ship

passed-alike : (s : State) → Alike s (passed s)
unfolding passed settle put_at
passed-alike s =
    let ts = tallies_of (put_at (book_in s) (s.watch.present % slot_times) 0) in
    record {
      register = length-map (tallied s.reg ts) (λ (r : Station). with_hold r (r.hold - 1)) ∙ tallied-length s.reg ts;
      size = length-set s.book _ _;
      plan = refl;
      ship = refl;
    }

then : (s t u : State) → Alike s t → Alike t u → Alike s u
then s t u a b =
    record { register = b.register ∙ a.register; size = b.size ∙ a.size; plan = b.plan ∙ a.plan; ship = b.ship ∙ a.ship }

pub passes-keep : (s : State) (n : ℕ) → Alike s (passes s n)
passes-keep s n =
    upto-keeps (λ t i. passed t) s (Alike s) n (λ t k l a. then s t (passed t) a (passed-alike t))
    (record { register = refl; size = refl; plan = refl; ship = refl })

-- so the lengths are tested alike before and after
pub sized-alike : (s t : State) → Alike s t → sized t ≡ sized s
unfolding sized
sized-alike s t a = rw (a.register, a.size)

-- and what is asked comes to the same
pub task-alike : (s t : State) → Alike s t → (fits : Bool) (bytes : List ℕ) (q : What) → task_of fits t.watch bytes q ≡ task_of fits s.watch bytes q
task-alike s t a fits bytes Nothing = refl
task-alike s t a fits bytes Hear = ap (λ (o : Ship). heard_task fits o.source bytes) a.ship
task-alike s t a fits bytes (ToPlan p) = refl
task-alike s t a fits bytes (Own o) = refl
task-alike s t a fits bytes (Choose x) = ap (λ (p : Plans). choose_task fits p x) a.plan
task-alike s t a fits bytes (Report x) = ap (λ (p : Plans). report_task fits p x) a.plan
task-alike s t a fits bytes New = refl
task-alike s t a fits bytes Sum = refl

pub passes_none : (s : State) → passes s 0 ≡ s
unfolding upto
passes_none s = refl

-- ---- the whole call

-- what is done once the slots have passed
done-after : (s : State) (n : ℕ) (bytes : List ℕ) (q : What) → done q (passes s n) bytes ≡ done_task (task_of (sized s) s.watch bytes q) (passes s n)
done-after s n bytes q =
    let t = passes s n in
    let a = passes-keep s n in
    done-is q t bytes ∙ ap (λ (x : Result Task Refusal). done_task x t) (ap (λ (b : Bool). task_of b t.watch bytes q) (sized-alike s t a) ∙ task-alike s t a (sized s) bytes q)

module _ (reg : List Station) (book : List ℕ) where
  -- a case that is carried out
  abbrev carried : Case → Answered
  carried c = done_task c.task (passes (state_of reg book c.watch) c.passes)

  none_is : (w : Watch) → no (state_of reg book w) OtherLength ≡ done_task (Err OtherLength) (passes (state_of reg book w) 0)
  unfolding done_task
  none_is w = ap (λ (t : State). no t OtherLength) (sym (passes_none (state_of reg book w)))

  module _ (bytes : List ℕ) (x : Ask) where
    called-carried : called (state_of reg book x.watch) x.passes bytes x.what ≡ carried (told_of (length reg) (length book) bytes x)
    unfolding called told_of fitting sized
    called-carried =
        let s = state_of reg book x.watch in
        let b = either (eqb x.passes 0) (sized s) in
        ap₂ (pick b) (done-after s x.passes bytes x.what) (none_is x.watch)
        ∙ sym (pick-of carried b
        (record { watch = x.watch; passes = x.passes; task = task_of (sized s) x.watch bytes x.what })
        (record { watch = x.watch; passes = 0; task = Err OtherLength }))

    pub called_is : out_of (called (state_of reg book x.watch) x.passes bytes x.what) ≡ carried_out (told_of (length reg) (length book) bytes x) reg book
    called_is = ap out_of called-carried

-- ---- what the stages need

abbrev All : List (Bool × Refusal) → Type 0
All [] = Unit {0}
All ((b, r) ∷ ts) = (b ≡ true) × All ts

module _ (reg : List Station) (book : List ℕ) where
  fits-refusing : (p : Plans) (ts : List (Bool × Refusal)) (t : Result Task Refusal) → (All ts → FitTask t p reg book) → FitTask (refusing ts t) p reg book
  fits-refusing p [] t h = h tt
  fits-refusing p ((true, r) ∷ ts) t h = fits-refusing p ts t (λ a. h (refl, a))
  fits-refusing p ((false, r) ∷ ts) t h = tt

  -- each is left to be done only where its tests hold
  fits-task : (fits : Bool) (w : Watch) (bytes : List ℕ) (q : What) → (fits ≡ true → Sized reg book) → FitTask (task_of fits w bytes q) w.channel.plan reg book
  unfolding fit_task heard_task telling_task plan_task own_task choose_task report_task
  fits-task fits w bytes Nothing z = fits-refusing w.channel.plan ((fits, OtherLength) ∷ []) (Ok task.Nothing) (λ a. tt)
  fits-task fits w bytes Hear z = by (read_answer bytes)
    where
      by : (r : Result Message Refusal) → FitTask (received_task fits w.ship.source r) w.channel.plan reg book
      by (Ok m) =
          let x = telling_of m in
          fits-refusing w.channel.plan ((fits, OtherLength) ∷ (fair_other x.source w.ship.source, BadSource) ∷ (eqb x.repeat 0, Repeated) ∷ []) (Ok (task.Hear x)) (λ a. z a.0)
      by (Err r) = tt
  fits-task fits w bytes (ToPlan p) z =
      fits-refusing w.channel.plan ((fits, OtherLength) ∷ (plan_fits p.rate p.start, OutOfRange) ∷ []) (Ok (task.Plan p)) (λ a. z a.0)
  fits-task fits w bytes (Own o) z = by (own_answer o.source o.latitude o.longitude)
    where
      by : (r : Result Ship Refusal) → FitTask (owned_task r) w.channel.plan reg book
      by (Ok t) = tt
      by (Err r) = tt
  fits-task fits w bytes (Choose x) z =
      let p = w.channel.plan in
      fits-refusing p ((fits, OtherLength) ∷ (plan_fits p.rate p.start, NoPlan) ∷ (ask_fits p x, OutOfRange) ∷ []) (Ok (task.Choose x)) (λ a. (z a.0, a.1.0, a.1.1.0))
  fits-task fits w bytes (Report t) z =
      let p = w.channel.plan in
      fits-refusing p ((fits, OtherLength) ∷ (plan_fits p.rate p.start, NoPlan) ∷ (time_fits t, OutOfRange) ∷ []) (Ok (task.Report t)) (λ a. (z a.0, a.1.0))
  fits-task fits w bytes New z = fits-refusing w.channel.plan ((fits, OtherLength) ∷ []) (Ok task.New) (λ a. z a.0)
  fits-task fits w bytes Sum z = fits-refusing w.channel.plan ((fits, OtherLength) ∷ []) (Ok task.Sum) (λ a. z a.0)

  -- both lengths, where they are the right ones
  fitting-sized : fitting (length reg) (length book) ≡ true → Sized reg book
  unfolding fitting
  fitting-sized e =
      record {
        register = eqb-true (length reg) records (both_right (eqb (length book) slot_times) (eqb (length reg) records) e);
        size = eqb-true (length book) slot_times (both_left (eqb (length book) slot_times) (eqb (length reg) records) e);
      }

  module _ (bytes : List ℕ) (x : Ask) where
    -- the case that is told of, and the one where slots would pass on other lengths
    abbrev goes : Bool → Case
    goes fits = record { watch = x.watch; passes = x.passes; task = task_of fits x.watch bytes x.what }

    abbrev stops : Case
    stops = record { watch = x.watch; passes = 0; task = Err OtherLength }

    fits-either : (z : Bool) → eqb x.passes 0 ≡ z → (fits : Bool) → (fits ≡ true → Sized reg book) → Fit reg book (pick (either z fits) (goes fits) stops)
    fits-either true e fits h =
        record { sized = λ l. absurd (omega (arith, eqb-true x.passes 0 e, l)); fits = fits-task fits x.watch bytes x.what h }
    fits-either false e true h = record { sized = λ l. h refl; fits = fits-task true x.watch bytes x.what h }
    fits-either false e false h = record { sized = λ l. absurd (omega (arith, l)); fits = tt }

    pub told-fits : Fit reg book (told_of (length reg) (length book) bytes x)
    unfolding told_of
    told-fits = fits-either (eqb x.passes 0) refl (fitting (length reg) (length book)) fitting-sized
