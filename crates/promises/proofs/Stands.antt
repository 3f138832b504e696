-- What holds of a new state and stays through each thing that can happen stays through whatever a call without passes does.
-- Assumes nothing.
use Prim.Native.Nat.{ℕ}
use mathlib.Core.Path.{sym, subst}
use mathlib.Core.Bool.{Bool, true, false}
use mathlib.Core.List.{List, [], ◌∷◌}
use lib.Dec.{eqb}
use lib.ListN.{get_or}
use Rattle.laws.specs.Tests.{pick}
use Rattle.limits.specs.Limits.{slot_times, records}
use Rattle.announcing.specs.Announce.{announces}
use Rattle.hearing.specs.declared.Telling.{Telling}
use Rattle.hearing.specs.Hear.{telling_in}
use Rattle.choosing.specs.declared.Wanted.{Wanted}
use Rattle.register.specs.State.{State, new_state}
use Rattle.register.specs.Answers.{Said}
use Rattle.calls.specs.declared.What.{What}
use Rattle.calls.specs.declared.What.TheVariants.{Nothing, Hear, Plan, Own, Choose, Report, New, Sum}
use Rattle.promises.specs.Calls.{Call}
use Rattle.promises.specs.History.{Event, happened, past_by}
use Rattle.promises.specs.History.Event.{passed, heard, owned, planned}
use Rattle.promises.proofs.Moves.{Fine, Stays, PassedBy, HeardBy, PlannedBy, ChosenBy, DoneBy, MovedBy}

-- P is of a new state with no events, and of the next state and its events if it is of a state and its events
pub record Stands (P : State → List Event → Type 0) : Type 0 where
  pub new : P (new_state slot_times records) []
  pub passing : (s s' : State) (es : List Event) (n : ℕ) → Fine s → PassedBy n s s' → P s es → P s' (passed n ∷ es)
  pub staying : (s s' : State) (es : List Event) → Stays s s' → P s es → P s' es
  pub hearing : (s s' : State) (es : List Event) (x : Telling) → Fine s → HeardBy x s s' → P s es
      → P s' (heard x.source (announces x.state) ∷ es)
  pub planning : (s s' : State) (es : List Event) → Fine s → PlannedBy s s' → P s es → P s' (planned ∷ es)
  pub choosing : (s s' : State) (es : List Event) (a : Wanted) (d : ℕ) → Fine s → ChosenBy a d s s' → P s es
      → P s' (owned d a.timeout ∷ es)

module _ (P : State → List Event → Type 0) (h : Stands P) where
  module _ (s s' : State) (es : List Event) (f : Fine s) (p : P s es) where
    -- by what was asked, where it is done
    done-so : (q : What) (bytes values : List ℕ) → DoneBy q bytes values s s' → P s' (happened q bytes values es)
    done-so Nothing bytes values b = h.staying s s' es b p
    done-so Hear bytes values b = h.hearing s s' es (telling_in bytes) f b p
    done-so (Plan x) bytes values b = h.planning s s' es f b p
    done-so (Own o) bytes values b = h.staying s s' es b p
    done-so (Choose a) bytes values b = h.choosing s s' es a (get_or values 0 0) f b p
    done-so (Report t) bytes values b = h.staying s s' es b p
    done-so New bytes values b = subst (λ (x : State). P x []) (sym b) h.new
    done-so Sum bytes values b = h.staying s s' es b p

    pub asked-so : (a : Said) (q : Call) → MovedBy a q s s' → P s' (past_by a q es)
    asked-so a q = go (eqb a.number 0)
      where
        go : (z : Bool) → pick z (DoneBy q.what q.bytes a.values s s') (Stays s s') → P s' (pick z (happened q.what q.bytes a.values es) es)
        go true b = done-so q.what q.bytes a.values b
        go false b = h.staying s s' es b p
