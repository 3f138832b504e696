-- A state whose book is written back: its book and sources; hold-offs that change nothing of these.
-- Assumes nothing.
use mathlib.Core.Path.{◌≡◌, refl, sym, ap, ◌∙◌}
use mathlib.Core.Bool.{Bool, true, false}
use mathlib.Core.List.{List, map}
use Prim.Native.Nat.{ℕ, ◌-◌}
use lib.ListN.{length, get_or, set, length-map}
use lib.Seq.{map-set_same}
use borrow.Author.Tests.{eq-eqb}
use Rattle.laws.specs.Tests.{pick}
use Rattle.limits.specs.Limits.{slot_times, records, hold_off}
use Rattle.ship.specs.declared.Station.{Station}
use Rattle.ship.specs.Ship.{blank}
use Rattle.book.specs.Book.{Book, is_record, tallies_of}
use Rattle.register.specs.State.{State, sources_in, with_hold, settle, held_off}
use Rattle.register.specs.Answers.{sized}
use Rattle.register.proofs.Settling.{tallied-field}
use Rattle.calls.specs.Calls.{plan_in}
use Rattle.promises.proofs.Moves.{Fine}

-- ---- lengths

-- the test of the lengths holds
pub fine-sized : (s : State) → Fine s → sized s ≡ true
unfolding sized
fine-sized s f = rw (eq-eqb (length s.book) slot_times f.book) (eq-eqb (length s.reg) records f.register)

-- as many records as sources
pub as_many : (reg reg' : List Station) → sources_in reg' ≡ sources_in reg → length reg' ≡ length reg
as_many reg reg' e = sym (length-map reg' (λ (r : Station). r.source)) ∙ ap length e ∙ length-map reg (λ (r : Station). r.source)

-- ---- what stays

pub written-sources : (b : Book) (s : State) → sources_in (settle b s).reg ≡ sources_in s.reg
unfolding settle
written-sources b s = tallied-field (λ (r : Station). r.source) (λ r t. refl) s.reg (tallies_of b)

pub written-present : (b : Book) (s : State) → (settle b s).watch.present ≡ s.watch.present
unfolding settle
written-present b s = refl

pub written-plan : (b : Book) (s : State) → plan_in (settle b s) ≡ plan_in s
unfolding settle
written-plan b s = refl

-- what does not look at hold-offs
pub held_stays : {A : Type 0} (f : Station → A) → ((r : Station) (h : ℕ) → f (with_hold r h) ≡ f r) → (h : ℕ) (reg : List Station)
    → map f (held_off h reg) ≡ map f reg
unfolding held_off
held_stays f same h reg = go (is_record h)
  where
    go : (b : Bool) → map f (pick b (set reg (h - 1) (with_hold (get_or reg (h - 1) blank) hold_off)) reg) ≡ map f reg
    go true = map-set_same f reg (h - 1) (with_hold (get_or reg (h - 1) blank) hold_off) blank (same (get_or reg (h - 1) blank) hold_off)
    go false = refl
