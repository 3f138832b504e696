-- Any row of calls from new: what stands through each thing that can happen holds of every state, and so the lengths do.
-- Assumes nothing.
use mathlib.Core.Path.{◌≡◌, sym, ap, subst, ◌∙◌}
use mathlib.Core.List.{List, [], ◌∷◌}
use Prim.Native.Nat.{ℕ}
use native.Mathlib.Nat.{add-zero}
use Rattle.register.specs.State.{State}
use Rattle.register.specs.Answers.{Answered, said}
use Rattle.calls.specs.declared.What.TheVariants.{Nothing}
use Rattle.calls.specs.Calls.{called}
use Rattle.calls.proofs.Promised.{passes-apart}
use Rattle.promises.specs.Calls.{Call, answer_to, after_call, after_all}
use Rattle.promises.specs.History.{Event, past_by, past_of}
use Rattle.promises.specs.History.Event.{passed}
use Rattle.promises.proofs.Moves.{Fine}
use Rattle.promises.proofs.Written.{fine-sized}
use Rattle.promises.proofs.Passing.{passed as passed-by}
use Rattle.promises.proofs.Moving.{rest_of, moved}
use Rattle.promises.proofs.Stands.{Stands, asked-so}
use Rattle.promises.proofs.Lasting.{lasting}

-- a call is its passes and then what is asked
abbrev passes_of : Call → Call
passes_of c = record { passes = c.passes; bytes = c.bytes; what = Nothing }

in_two : (s : State) (c : Call) → Fine s → answer_to s c ≡ answer_to (after_call s (passes_of c)) (rest_of c)
unfolding after_call
in_two s c f =
    ap (λ (n : ℕ). called s n c.bytes c.what) (sym (add-zero c.passes))
    ∙ passes-apart s c.passes 0 c.bytes c.what (fine-sized s f)

pub one-call : (P : State → List Event → Type 0) → Stands P → (s : State) (c : Call) (es : List Event) → Fine s → P s es
    → P (after_call s c) (past_by (said (answer_to s c).answer) c (passed c.passes ∷ es))
unfolding after_call
one-call P h s c es f p =
    let s' = after_call s (passes_of c) in
    let b = passed-by s c.passes c.bytes f in
    let f' = lasting.passing s s' es c.passes f b f in
    let es' = passed c.passes ∷ es in
    subst (λ (o : Answered). P o.state (past_by (said o.answer) c es')) (sym (in_two s c f))
    (asked-so P h s' (after_call s' (rest_of c)) es' f' (h.passing s s' es c.passes f b p)
    (said (answer_to s' (rest_of c)).answer) c (moved s' c f'))

pub grown : (cs : List Call) → Fine (after_all cs)
unfolding after_all
grown [] = lasting.new
grown (c ∷ cs) = one-call _ lasting (after_all cs) c [] (grown cs) (grown cs)

-- so it is of every state, with its events
pub always : (P : State → List Event → Type 0) → Stands P → (cs : List Call) → P (after_all cs) (past_of cs)
unfolding after_all past_of
always P h [] = h.new
always P h (c ∷ cs) = one-call P h (after_all cs) c (past_of cs) (grown cs) (always P h cs)
