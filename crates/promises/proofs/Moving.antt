-- What a call without passes does, by its answer.
-- Assumes nothing.
use mathlib.Core.Path.{refl}
use mathlib.Core.Bool.{Bool, true, false}
use mathlib.Core.List.{List, [], ◌∷◌}
use Prim.Native.Nat.{ℕ}
use Rattle.laws.specs.Tests.{ladder}
use Rattle.laws.specs.Exactly.{AllHold}
use Rattle.laws.specs.Loops.{upto}
use Rattle.limits.specs.Limits.{slot_times, records}
use Rattle.hearing.specs.Hear.{telling_in, hear_tests, hears, hear}
use Rattle.choosing.specs.Choose.{choose_tests, chooses, choose}
use Rattle.register.specs.declared.Answer.TheVariants.{Begun, Passed, Planned, Set}
use Rattle.register.specs.State.{State, new_state}
use Rattle.register.specs.Answers.{Answered, answered, said}
use Rattle.calls.specs.declared.What.{What}
use Rattle.calls.specs.declared.What.TheVariants.{Nothing, Hear, Plan, Own, Choose, Report, New, Sum}
use Rattle.calls.specs.Calls.{
  pass_tests,
  pass,
  planned,
  plan_tests,
  plan,
  owning,
  own_tests,
  own,
  report_tests,
  reports,
  report,
  begin,
  sum,
  done,
  called,
}
use Rattle.promises.specs.Calls.{Call, answer_to, after_call}
use Rattle.promises.proofs.Moves.{Fine, Stays, MovedBy}
use Rattle.promises.proofs.Planning.{plan-moves}
use Rattle.promises.proofs.Hearing.{hear-moves}
use Rattle.promises.proofs.Choosing.{choose-moves}

-- ---- answers that go by tests

-- P is of what is given where a test does not hold
abbrev pub Each : (Answered → Type 0) → List (Bool × Answered) → Type 0
Each P [] = Unit {0}
Each P (t ∷ ts) = P t.1 × Each P ts

pub by_tests : (P : Answered → Type 0) (ts : List (Bool × Answered)) (x : Answered) → Each P ts → (AllHold ts → P x) → P (ladder ts x)
by_tests P [] x n y = y tt
by_tests P ((true, z) ∷ []) x n y = y refl
by_tests P ((false, z) ∷ []) x n y = n.0
by_tests P ((true, z) ∷ u ∷ ts) x n y = by_tests P (u ∷ ts) x n.1 (λ h. y (refl, h))
by_tests P ((false, z) ∷ u ∷ ts) x n y = n.0

-- ---- the calls

-- what is asked, with no slots that pass before
abbrev pub rest_of : Call → Call
rest_of c = record { passes = 0; bytes = c.bytes; what = c.what }

stays : (s : State) → Stays s s
stays s = record { book = refl; sources = refl; present = refl; plan = refl }

module _ (s : State) (f : Fine s) (n : ℕ) (bytes : List ℕ) where
  -- what was answered, and the state that is left; the slots that pass before are not asked for
  abbrev Moved : What → Answered → Type 0
  Moved q a = MovedBy (said a.answer) (record { passes = n; bytes = bytes; what = q }) s a.state

  -- by what is asked; a refusal leaves all as it was
  done-moves : (q : What) → Moved q (done q s bytes)
  unfolding pass hear hear_tests plan own choose choose_tests report begin sum
  done-moves Nothing = by_tests (Moved Nothing) (pass_tests s) (answered Passed s) (stays s, tt) (λ h. stays s)
  done-moves Hear =
      let r = stays s in
      by_tests (Moved Hear) (hear_tests s bytes) (hears s (telling_in bytes)) (r, (r, (r, (r, (r, (r, (r, tt)))))))
      (λ h. hear-moves s bytes f h)
  done-moves (Plan p) =
      let r = stays s in by_tests (Moved (Plan p)) (plan_tests s p) (answered Planned (planned s p)) (r, (r, tt)) (λ h. plan-moves s p f h)
  done-moves (Own o) =
      let r = stays s in
      by_tests (Moved (Own o)) (own_tests s o) (answered Set (owning s o)) (r, (r, tt))
      (λ h. record { book = refl; sources = refl; present = refl; plan = refl })
  done-moves (Choose a) =
      let r = stays s in
      by_tests (Moved (Choose a)) (choose_tests s a) (chooses s a) (r, (r, (r, (r, (r, (r, (r, tt))))))) (λ h. choose-moves s a f h _ refl)
  done-moves (Report t) =
      let r = stays s in by_tests (Moved (Report t)) (report_tests s t) (reports s t) (r, (r, (r, (r, tt)))) (λ h. r)
  done-moves New = by_tests (Moved New) (pass_tests s) (answered Begun (new_state slot_times records)) (stays s, tt) (λ h. refl)
  done-moves Sum = by_tests (Moved Sum) (pass_tests s) _ (stays s, tt) (λ h. stays s)

pub moved : (s : State) (c : Call) → Fine s → MovedBy (said (answer_to s (rest_of c)).answer) c s (after_call s (rest_of c))
unfolding after_call called upto
moved s c f = done-moves s f c.passes c.bytes c.what
