-- That the promises speak of the code: what each public call leaves, by its contract, is what the row of calls goes on with.
-- Assumes nothing.
use Rattle.std.specs.Prelude.{ℕ, ◌≡◌, List}
use Rattle.ship.specs.declared.Ship.{Ship}
use Rattle.ship.specs.declared.Station.{Station}
use Rattle.plan.specs.declared.Plan.{Plan as Plans}
use Rattle.choosing.specs.declared.Wanted.{Wanted}
use Rattle.reporting.specs.declared.Time.{Time}
use Rattle.walks.specs.Out.{Ends}
use Rattle.register.specs.declared.Reply.{Reply}
use Rattle.register.specs.State.{State, state_of}
use Rattle.register.specs.Answers.{out_of}
use Rattle.calls.specs.declared.What.{What}
use Rattle.calls.specs.declared.What.TheVariants.{Nothing, Hear, Plan, Own, Choose, Report, New, Sum}
use Rattle.calls.specs.Calls.{called}
use Rattle.promises.specs.Calls.{after_call}

-- whatever the state and the bytes: what ends as the contract of the call says is the state after the call
abbrev pub LeadsOn : ℕ → What → Type 0
LeadsOn n q =
    (s : State) (bytes : List ℕ) (r : Reply) (reg : List Station) (book : List ℕ) → Ends (out_of (called s n bytes q)) r reg book
    → state_of reg book r.watch ≡ after_call s (record { passes = n; bytes = bytes; what = q })

-- the public calls, by their names
pub record ByTheCode : Type 0 where
  pub begin : LeadsOn 0 New
  pub pass-one : LeadsOn 1 Nothing
  pub pass : (n : ℕ) → LeadsOn n Nothing
  pub hear : LeadsOn 0 Hear
  pub plan : (p : Plans) → LeadsOn 0 (Plan p)
  pub own : (s : Ship) → LeadsOn 0 (Own s)
  pub choose : (a : Wanted) → LeadsOn 0 (Choose a)
  pub report : (t : Time) → LeadsOn 0 (Report t)
  pub sum : LeadsOn 0 Sum
  pub call : (n : ℕ) (q : What) → LeadsOn n q
