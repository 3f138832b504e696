-- What is promised of the public calls, beyond what the contract of `call` says. Proved in proofs/Promised.antt.
-- Assumes nothing.
use Rattle.std.specs.Prelude.{ℕ, ◌+◌, ◌≡◌, Bool, true, List, [], ◌∷◌, eqb}
use Rattle.laws.specs.Tests.{pick, either}
use Rattle.laws.specs.Exactly.{Refuses}
use Rattle.numbers.specs.declared.Refusal.TheVariants.{OtherLength}
use Rattle.plan.specs.declared.Plan.{Plan}
use Rattle.ship.specs.declared.Station.{Station}
use Rattle.ship.specs.declared.Ship.{Ship}
use Rattle.book.specs.declared.Watch.{Watch}
use Rattle.walks.specs.Out.{Ends}
use Rattle.register.specs.declared.Reply.{Reply}
use Rattle.register.specs.State.{State, state_of, passes}
use Rattle.register.specs.Answers.{Answered, no, out_of, said, given_number, sized}
use Rattle.reporting.specs.declared.Time.{Time}
use Rattle.hearing.specs.Hear.{hear_tests}
use Rattle.choosing.specs.declared.Wanted.{Wanted}
use Rattle.choosing.specs.Choose.{choose_tests}
use Rattle.calls.specs.declared.Ask.{Ask}
use Rattle.calls.specs.declared.What.{What}
use Rattle.calls.specs.declared.What.TheVariants.{Nothing, Hear, Plan as ToPlan, Own, Choose, Report, New, Sum}
use Rattle.calls.specs.Calls.{pass_tests, plan_tests, own_tests, report_tests, called}

-- ---- each number is given exactly when, and then nothing has changed

-- the numbers of each call, in document 01's order ..
abbrev pub order_of : What → List ℕ
order_of Nothing = 20 ∷ []
order_of Hear = 17 ∷ 18 ∷ 20 ∷ 21 ∷ 22 ∷ 23 ∷ 35 ∷ []
order_of (ToPlan p) = 20 ∷ 30 ∷ []
order_of (Own o) = 21 ∷ 30 ∷ []
order_of (Choose a) = 20 ∷ 31 ∷ 30 ∷ 32 ∷ 33 ∷ 34 ∷ 35 ∷ []
order_of (Report t) = 20 ∷ 31 ∷ 30 ∷ 36 ∷ []
order_of New = 20 ∷ []
order_of Sum = 20 ∷ []

-- .. and its tests
abbrev pub tests_of : What → State → List ℕ → List (Bool × Answered)
tests_of Nothing s bytes = pass_tests s
tests_of Hear s bytes = hear_tests s bytes
tests_of (ToPlan p) s bytes = plan_tests s p
tests_of (Own o) s bytes = own_tests s o
tests_of (Choose a) s bytes = choose_tests s a
tests_of (Report t) s bytes = report_tests s t
tests_of New s bytes = pass_tests s
tests_of Sum s bytes = pass_tests s

-- n slots pass on a lent register and a lent book, and then q is asked, with lent bytes: of whatever ends as the contract of `call` says. `numbers` and `tests` are those of
-- the call, `kept` is the state where it is refused
abbrev pub Refusing : ℕ → What → List ℕ → (State → List ℕ → List (Bool × Answered)) → (State → State) → Type 0
Refusing n q numbers tests kept =
    (reg : List Station) (book : List ℕ) (w : Watch) (bytes : List ℕ) (r : Reply) (reg' : List Station) (book' : List ℕ)
    → let s = state_of reg book w in
    Ends (out_of (called s n bytes q)) r reg' book'
    → Refuses numbers given_number (tests s bytes) (said r.answer).number (state_of reg' book' r.watch ≡ kept s)

-- a call with no slots before it, or that lets slots pass and nothing more
abbrev pub RefusingBy : ℕ → What → Type 0
RefusingBy n q = Refusing n q (order_of q) (tests_of q) (λ s. s)

-- the public calls, by their names
pub record RefusesExactly : Type 0 where
  pub begin : RefusingBy 0 New
  pub pass-one : RefusingBy 1 Nothing
  pub pass : (n : ℕ) → RefusingBy n Nothing
  pub hear : RefusingBy 0 Hear
  pub plan : (p : Plan) → RefusingBy 0 (ToPlan p)
  pub own : (o : Ship) → RefusingBy 0 (Own o)
  pub choose : (a : Wanted) → RefusingBy 0 (Choose a)
  pub report : (t : Time) → RefusingBy 0 (Report t)
  pub sum : RefusingBy 0 Sum
  -- any of them after slots that pass: their 20 comes first; and where the lengths are right the slots have passed also where the rest is refused
  pub call : (n : ℕ) (q : What)
      → Refusing n q (20 ∷ order_of q) (λ s bytes. (either (eqb n 0) (sized s), no s OtherLength) ∷ tests_of q (passes s n) bytes) (λ s. pick (sized s) (passes s n) s)

-- ---- one answer

-- two answers and contents that meet the contract at the same input are equal
abbrev pub OneAnswer : Type 0
OneAnswer =
    (x : Ask) (bytes : List ℕ) (reg : List Station) (book : List ℕ) (r s : Reply) (reg₁ reg₂ : List Station) (book₁ book₂ : List ℕ)
    → Ends (out_of (called (state_of reg book x.watch) x.passes bytes x.what)) r reg₁ book₁
    → Ends (out_of (called (state_of reg book x.watch) x.passes bytes x.what)) s reg₂ book₂
    → (r ≡ s) × (reg₁ ≡ reg₂) × (book₁ ≡ book₂)

-- ---- slots that pass first

-- of the slots that pass first, any number may pass in a call of their own before
abbrev pub PassesApart : Type 0
PassesApart =
    (s : State) (j k : ℕ) (bytes : List ℕ) (q : What) → sized s ≡ true
    → called s (j + k) bytes q ≡ called (called s j bytes Nothing).state k bytes q
