-- The promises of specs/Promises.antt: each number exactly when, what a refusal keeps, one answer, and the slots that pass first.
-- Assumes nothing.
use mathlib.Core.Path.{◌≡◌, refl, sym, ap, ◌∙◌}
use mathlib.Core.Bool.{Bool, true, false}
use mathlib.Core.List.{List, [], ◌∷◌, map}
use Prim.Native.Nat.{ℕ, zero, suc, ◌+◌, ◌<◌}
use native.Mathlib.Nat.{add-zero, add-suc}
use native.Mathlib.Omega.{arith}
use borrow.Author.Tests.{eqb-true}
use lib.Dec.{T, eqb}
use Rattle.laws.specs.Tests.{pick, either, ladder}
use Rattle.laws.specs.Counting.{sum as total}
use Rattle.laws.specs.Exactly.{Exactly}
use Rattle.laws.specs.Loops.{upto}
use Rattle.laws.proofs.Tests.{by-test, either_true}
use Rattle.laws.proofs.Ladder.{above, by_tests, owes}
use Rattle.limits.specs.Limits.{slot_times, records}
use Rattle.std.specs.Prelude.{Result, Ok, Err}
use Rattle.numbers.specs.declared.Refusal.{Refusal}
use Rattle.numbers.specs.declared.Refusal.TheVariants.{OtherLength, NotOwn}
use Rattle.register.specs.declared.Reply.{Reply}
use Rattle.register.specs.declared.Answer.TheVariants.{Passed, Planned, Set, Begun, Sum as Summed}
use Rattle.register.specs.State.{State, state_of, new_state, tallies_in, passed, passes}
use Rattle.register.specs.Answers.{Answered, answered, no, said, given_number, sized}
use Rattle.reporting.specs.Report.{own_at}
use Rattle.hearing.specs.Hear.{telling_in, book_tests, hear_tests, hears, hear}
use Rattle.choosing.specs.Choose.{draw_tests, choose_tests, chooses, choose}
use Rattle.calls.specs.declared.What.{What}
use Rattle.calls.specs.declared.What.TheVariants.{Nothing, Hear, Plan as ToPlan, Own, Choose, Report, New, Sum}
use Rattle.calls.specs.declared.told.Task.{Task}
use Rattle.calls.specs.declared.told.Task.TheVariants as task
use Rattle.calls.specs.Calls.{pass_tests, pass, planned, plan, owning, own, reports, report, begin, sum, done, called}
use Rattle.calls.specs.Told.{task_of}
use Rattle.calls.specs.Stages.{done_task}
use Rattle.calls.specs.Promises.{order_of, tests_of, Refusing, RefusingBy, RefusesExactly, OneAnswer, PassesApart}
use Rattle.calls.proofs.Doing.{done-is, passes-keep, passes_none, sized-alike}

-- ---- exactly when

-- what is answered where all tests of what is asked hold
abbrev through : What → State → List ℕ → Answered
through Nothing s bytes = answered Passed s
through Hear s bytes = hears s (telling_in bytes)
through (ToPlan p) s bytes = answered Planned (planned s p)
through (Own o) s bytes = answered Set (owning s o)
through (Choose a) s bytes = chooses s a
through (Report t) s bytes = reports s t
through New s bytes = answered Begun (new_state slot_times records)
through Sum s bytes = answered (Summed (total (tallies_in s.reg))) s

module _ (s : State) (bytes : List ℕ) where
  by_order : (q : What) → done q s bytes ≡ ladder (tests_of q s bytes) (through q s bytes)
  unfolding pass hear hear_tests plan own choose choose_tests report begin sum
  by_order Nothing = refl
  by_order Hear = refl
  by_order (ToPlan p) = refl
  by_order (Own o) = refl
  by_order (Choose a) = refl
  by_order (Report t) = refl
  by_order New = refl
  by_order Sum = refl

  in_order : (q : What) → map (λ (t : Bool × Answered). given_number t.1) (tests_of q s bytes) ≡ order_of q
  unfolding hear_tests choose_tests
  in_order Nothing = refl
  in_order Hear = refl
  in_order (ToPlan p) = refl
  in_order (Own o) = refl
  in_order (Choose a) = refl
  in_order (Report t) = refl
  in_order New = refl
  in_order Sum = refl

  no_number : (q : What) → given_number (through q s bytes) ≡ 0
  no_number Nothing = refl
  no_number Hear = refl
  no_number (ToPlan p) = refl
  no_number (Own o) = refl
  no_number (Choose a) = refl
  no_number (Report t) = refl
  no_number New = refl
  no_number Sum = refl

numbers-above : (q : What) → T (above (order_of q))
numbers-above Nothing = tt
numbers-above Hear = tt
numbers-above (ToPlan p) = tt
numbers-above (Own o) = tt
numbers-above (Choose a) = tt
numbers-above (Report t) = tt
numbers-above New = tt
numbers-above Sum = tt

-- what is asked, once the slots have passed
done-exactly : (q : What) (s : State) (bytes : List ℕ) → Exactly (order_of q) given_number (tests_of q s bytes) (given_number (done q s bytes))
done-exactly q s bytes =
    rw (by_order s bytes q) (by_tests (order_of q) given_number (tests_of q s bytes) (through q s bytes) (in_order s bytes q) (numbers-above q) (no_number s bytes q))

-- the test of the lengths where slots pass, and then those of what is asked
abbrev with_lengths : ℕ → What → State → List ℕ → List (Bool × Answered)
with_lengths n q s bytes = (either (eqb n 0) (sized s), no s OtherLength) ∷ tests_of q (passes s n) bytes

called-exactly : (n : ℕ) (q : What) (s : State) (bytes : List ℕ)
    → Exactly (20 ∷ order_of q) given_number (with_lengths n q s bytes) (given_number (called s n bytes q))
unfolding called
called-exactly n q s bytes =
    let t = passes s n in
    rw (by_order t bytes q)
    (by_tests (20 ∷ order_of q) given_number (with_lengths n q s bytes) (through q t bytes) (ap (20 ∷◌) (in_order t bytes q)) (numbers-above q) (no_number t bytes q))

-- ---- a refusal

-- where it has a number, the state is s
abbrev Kept : State → Answered → Type 0
Kept s a = 0 < given_number a → a.state ≡ s

-- what is given where a test does not hold has the state s
abbrev Leaves : State → List (Bool × Answered) → Type 0
Leaves s [] = Unit {0}
Leaves s (t ∷ ts) = (t.1.state ≡ s) × Leaves s ts

kept-ladder : (s : State) (ts : List (Bool × Answered)) (x : Answered) → Leaves s ts → Kept s x → Kept s (ladder ts x)
kept-ladder s [] x l k = k
kept-ladder s ((true, y) ∷ ts) x l k = kept-ladder s ts x l.1 k
kept-ladder s ((false, y) ∷ ts) x l k = λ e. l.0

-- what is left to be done, where it is refused
kept-task : (t : Result Task Refusal) (s : State) → Kept s (done_task t s)
unfolding done_task
kept-task (Err r) s e = refl
kept-task (Ok task.Nothing) s e = refl
kept-task (Ok (task.Hear x)) s e = kept-ladder s (book_tests s x) (hears s x) (refl, (refl, tt)) (λ z. absurd (omega (arith, z))) e
kept-task (Ok (task.Plan p)) s e = absurd (omega (arith, e))
kept-task (Ok (task.Own o)) s e = absurd (omega (arith, e))
kept-task (Ok (task.Choose a)) s e =
    kept-ladder s (draw_tests s a) (chooses s a) (refl, (refl, (refl, (refl, tt)))) (λ z. absurd (omega (arith, z))) e
kept-task (Ok (task.Report t)) s e = kept-ladder s ((own_at s.book s.watch.present 0, no s NotOwn) ∷ []) (reports s t) (refl, tt) (λ z. refl) e
kept-task (Ok task.New) s e = absurd (omega (arith, e))
kept-task (Ok task.Sum) s e = refl

kept : (s : State) (bytes : List ℕ) (q : What) → Kept s (done q s bytes)
kept s bytes q = rw (done-is q s bytes) (kept-task (task_of (sized s) s.watch bytes q) s)

-- ---- the calls by their names

-- a call that is refused by its lengths or by what is asked
called-kept : (n : ℕ) (q : What) (s : State) (bytes : List ℕ) → 0 < given_number (called s n bytes q) → (called s n bytes q).state ≡ pick (sized s) (passes s n) s
unfolding called
called-kept n q s bytes =
    by-test (sized s)
    (λ y. rw (y, either_true (eqb n 0)) (kept (passes s n) bytes q))
    (λ y.
    by-test (eqb n 0)
    (λ z. rw (y, z) (λ h. kept (passes s n) bytes q h ∙ ap (passes s) (eqb-true n 0 z) ∙ passes_none s))
    (λ z. rw (y, z) (λ h. refl)))

-- a call gives what it ends with
ended : (n : ℕ) (q : What) (numbers : List ℕ) (tests : State → List ℕ → List (Bool × Answered)) (k : State → State)
    → ((s : State) (bytes : List ℕ) → Exactly numbers given_number (tests s bytes) (given_number (called s n bytes q)))
    → ((s : State) (bytes : List ℕ) → 0 < given_number (called s n bytes q) → (called s n bytes q).state ≡ k s) → Refusing n q numbers tests k
ended n q numbers tests k x keeps reg book w bytes r reg' book' e =
    let s = state_of reg book w in
    let a = called s n bytes q in
    let number : (said r.answer).number ≡ given_number a = ap (λ (y : Reply). (said y.answer).number) e.answers in
    let left : state_of reg' book' r.watch ≡ a.state = λ i. record { reg = e.leaves i; book = e.writes i; watch = (e.answers i).watch } in
    owes numbers given_number (tests s bytes) a (said r.answer).number (x s bytes) number (λ h. left ∙ keeps s bytes (omega (arith, number, h)))

-- with no slots before it
alone : (q : What) → RefusingBy 0 q
unfolding called upto
alone q = ended 0 q (order_of q) (tests_of q) (λ s. s) (λ s bytes. done-exactly q s bytes) (λ s bytes. kept s bytes q)

-- slots that pass: whether there are any or not, the lengths are asked
pass-is : (n : ℕ) (s : State) (bytes : List ℕ) → called s n bytes Nothing ≡ ladder (pass_tests s) (answered Passed (passes s n))
unfolding called pass
pass-is n s bytes =
    let t = passes s n in
    by-test (sized s)
    (λ y. rw (sized-alike s t (passes-keep s n), y, either_true (eqb n 0)))
    (λ y.
    by-test (eqb n 0)
    (λ z. rw (sized-alike s t (passes-keep s n), y, z) (ap (λ (u : State). no u OtherLength) (ap (passes s) (eqb-true n 0 z) ∙ passes_none s)))
    (λ z. rw (y, z)))

passing : (n : ℕ) → RefusingBy n Nothing
passing n =
    ended n Nothing (20 ∷ []) (tests_of Nothing) (λ s. s)
    (λ s bytes. rw (pass-is n s bytes) (by_tests (20 ∷ []) given_number (pass_tests s) (answered Passed (passes s n)) refl tt refl))
    (λ s bytes.
    rw (pass-is n s bytes) (kept-ladder s (pass_tests s) (answered Passed (passes s n)) (refl, tt) (λ h. absurd (omega (arith, h)))))

pub refuses-exactly : RefusesExactly
refuses-exactly =
    record {
      begin = alone New;
      pass-one = passing 1;
      pass = passing;
      hear = alone Hear;
      plan = λ p. alone (ToPlan p);
      own = λ o. alone (Own o);
      choose = λ a. alone (Choose a);
      report = λ t. alone (Report t);
      sum = alone Sum;
      call = λ n q. ended n q (20 ∷ order_of q) (with_lengths n q) (λ s. pick (sized s) (passes s n) s) (called-exactly n q) (called-kept n q);
    }

-- ---- one answer

pub one_answer : OneAnswer
one_answer x bytes reg book r s reg₁ reg₂ book₁ book₂ a b = (a.answers ∙ sym b.answers, a.leaves ∙ sym b.leaves, a.writes ∙ sym b.writes)

-- ---- slots that pass first

-- slots that pass leave the state that they leave, be the lengths what they are
pass-state : (s : State) → (pass s).state ≡ s
unfolding pass
pass-state s = by-test (sized s) (λ e. rw e) (λ e. rw e)

passes-add : (s : State) (j k : ℕ) → passes s (j + k) ≡ passes (passes s j) k
unfolding upto
passes-add s j zero = ap (passes s) (add-zero j)
passes-add s j (suc k) = ap (passes s) (add-suc j k) ∙ ap passed (passes-add s j k)

-- with its lengths a call is what it does once the slots have passed
pub called-sized : (s : State) (n : ℕ) (bytes : List ℕ) (q : What) → sized s ≡ true → called s n bytes q ≡ done q (passes s n) bytes
unfolding called
called-sized s n bytes q e = rw (e, either_true (eqb n 0))

pub passes-apart : PassesApart
passes-apart s j k bytes q e =
    let t = passes s j in
    let there : (called s j bytes Nothing).state ≡ t = ap (λ (a : Answered). a.state) (called-sized s j bytes Nothing e) ∙ pass-state t in
    called-sized s (j + k) bytes q e
    ∙ ap (λ (u : State). done q u bytes) (passes-add s j k)
    ∙ sym (called-sized t k bytes q (sized-alike s t (passes-keep s j) ∙ e))
    ∙ ap (λ (u : State). called u k bytes q) (sym there)
