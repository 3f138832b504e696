-- What the run over the frames answers and leaves is what the document says of choosing, and the run's needs are met.
--     chooses-is       the run comes to the ladder of the draw
--     run-met          what it needs
-- Assumes nothing.
use mathlib.Core.Path.{◌≡◌, refl, sym, ap, subst, ◌∙◌}
use mathlib.Core.Bool.{Bool, true, false, not}
use mathlib.Core.List.{List, [], ◌∷◌}
use Prim.Native.Nat.{ℕ, suc, ◌+◌, ◌*◌, ◌%◌}
use native.Mathlib.Numerals.{add-one}
use native.Mathlib.Omega.{arith}
use borrow.Author.Tests.{ltb-true}
use lib.Dec.{ltb}
use lib.ListN.{length}
use Rattle.laws.specs.Tests.{pick, ladder}
use Rattle.limits.specs.Limits.{frame_slots, slot_times, records}
use Rattle.ship.specs.declared.Station.{Station}
use Rattle.book.specs.declared.Watch.{Watch}
use Rattle.book.specs.Book.{place}
use Rattle.std.specs.declared.result.Result.{Result}
use Rattle.std.specs.declared.result.Result.TheVariants.{Ok, Err}
use Rattle.numbers.specs.declared.Refusal.{Refusal}
use Rattle.numbers.specs.declared.Refusal.TheVariants.{WindowTaken, NoCandidate, DrawBack, BeyondBook}
use Rattle.candidates.specs.declared.Picked.{Picked}
use Rattle.candidates.specs.declared.Window.{Window}
use Rattle.candidates.specs.Slot.{View}
use Rattle.candidates.specs.Window.{is_no, is_back, distance_in, number_in}
use Rattle.candidates.specs.Choice.{candidates_in, choice}
use Rattle.candidates.proofs.Draws.{picked-cases}
use Rattle.register.specs.declared.Reply.{Reply}
use Rattle.register.specs.State.{State, state_of}
use Rattle.register.specs.declared.Answer.TheVariants.{Chosen}
use Rattle.register.specs.Answers.{Answered, answered, no, out_of}
use Rattle.walks.specs.Out.{Out}
use Rattle.choosing.specs.declared.Wanted.{Wanted}
use Rattle.choosing.specs.declared.Query.{Query}
use Rattle.choosing.specs.Choosing.{window_meant, window_of, any_own, picked_in}
use Rattle.choosing.specs.Choose.{drawn_in, chosen, replaced_in, draw_tests, chooses}
use Rattle.choosing.specs.declared.own.Owning.{Owning}
use Rattle.choosing.specs.Owning.{owned_at, owning_at, owning_of, Owns, chosen_out}

-- ---- by what was drawn, p, in a window without an own mark

-- the tests on it, and what is answered where they hold, m being the time-out
abbrev pub drawn_tests : State → ℕ → Result Picked Refusal → List (Bool × Answered)
drawn_tests s m p =
    (not (is_no p), no s NoCandidate) ∷ (not (is_back p), no s DrawBack) ∷ (ltb (distance_in p + frame_slots * m) slot_times, no s BeyondBook) ∷ []

abbrev pub drawn_slot : State → ℕ → Result Picked Refusal → Answered
drawn_slot s m p =
    answered (Chosen (record {
      distance = distance_in p;
      slot = place s.watch.present (distance_in p) % frame_slots;
      candidates = number_in p;
      replaced = replaced_in s.book s.watch.present (distance_in p) (suc m);
    })) (chosen s (distance_in p) m)

abbrev drawn_out : State → ℕ → Result Picked Refusal → Out Reply
drawn_out s m p = out_of (ladder (drawn_tests s m p) (drawn_slot s m p))

-- a draw comes to a slot, to no candidate, or is sent back
pub choice-cases : (P : Result Picked Refusal → Type 0) → ((p : Picked) → P (Ok p)) → P (Err NoCandidate) → P (Err DrawBack) → (v : View) (w : Window) (d : ℕ)
    → P (choice v w d)
unfolding choice
choice-cases P o n b v w d = picked-cases P o n b w.first (candidates_in v w) d

module _ (q : Query) (reg : List Station) (book : List ℕ) where
  abbrev state : State
  state = state_of reg book q.watch

  -- the slot p
  at-is : (p : Picked) → chosen_out q.watch (owning_at q p) reg book ≡ drawn_out state q.window.timeout (Ok p)
  unfolding owning_at chosen
  at-is p = go (ltb (p.distance + frame_slots * q.window.timeout) slot_times)
    where
      go : (b : Bool)
          → chosen_out q.watch (pick b (Ok (owned_at q p)) (Err BeyondBook)) reg book
          ≡ out_of (pick b (drawn_slot state q.window.timeout (Ok p)) (no state BeyondBook))
      go true = rw (add-one q.window.timeout)
      go false = refl

  drawn-is : (v : View) (w : Window) (d : ℕ)
      → chosen_out q.watch (owning_of q (choice v w d)) reg book ≡ drawn_out state q.window.timeout (choice v w d)
  drawn-is =
      choice-cases (λ p. chosen_out q.watch (owning_of q p) reg book ≡ drawn_out state q.window.timeout p) at-is refl refl

  -- ---- the run's needs, whatever was picked

  -- what is to become ours has met them
  abbrev pub OwnsBy : Result Owning Refusal → Type 0
  OwnsBy (Ok o) = Owns reg book o
  OwnsBy (Err r) = Unit {0}

  at-met : (p : Picked) → length reg ≡ records → length book ≡ slot_times → OwnsBy (owning_at q p)
  unfolding owning_at
  at-met p e f = go (ltb (p.distance + frame_slots * q.window.timeout) slot_times) refl
    where
      go : (b : Bool) → ltb (p.distance + frame_slots * q.window.timeout) slot_times ≡ b → OwnsBy (pick b (Ok (owned_at q p)) (Err BeyondBook))
      go true t = record { register = e; size = f; inside = omega (arith, ltb-true (p.distance + frame_slots * q.window.timeout) slot_times t) }
      go false t = tt

  pub run-met : (p : Result Picked Refusal) → length reg ≡ records → length book ≡ slot_times → OwnsBy (owning_of q p)
  run-met (Ok p) e f = at-met p e f
  run-met (Err r) e f = tt

-- ---- the query being the one of what is asked

module _ (reg : List Station) (book : List ℕ) (a : Wanted) (q : Query) (asked : q.window ≡ window_of q.watch a) where
  abbrev s : State
  s = state_of reg book q.watch

  timed : q.window.timeout ≡ a.timeout
  unfolding window_meant
  timed = ap (λ (v : Window). v.timeout) asked

  -- the window has no own mark
  free-is : chosen_out q.watch (owning_of q (drawn_in s a)) reg book ≡ drawn_out s a.timeout (drawn_in s a)
  free-is = drawn-is q reg book _ _ _ ∙ ap (λ (m : ℕ). drawn_out s m (drawn_in s a)) timed

  here-is : chosen_out q.watch (owning_of q (picked_in reg book q.watch a)) reg book ≡ out_of (ladder (draw_tests s a) (chooses s a))
  unfolding picked_in
  here-is = go (any_own book (window_of q.watch a))
    where
      go : (b : Bool)
          → chosen_out q.watch (owning_of q (pick b (Err WindowTaken) (drawn_in s a))) reg book
          ≡ out_of (pick (not b) (ladder (drawn_tests s a.timeout (drawn_in s a)) (chooses s a)) (no s WindowTaken))
      go true = refl
      go false = free-is

-- what the run answers and leaves is the ladder of the draw
pub chooses-is : (reg : List Station) (book : List ℕ) (w : Watch) (a : Wanted) (q : Query) → q.watch ≡ w → q.window ≡ window_of w a
    → chosen_out w (owning_of q (picked_in reg book w a)) reg book ≡ out_of (ladder (draw_tests (state_of reg book w) a) (chooses (state_of reg book w) a))
chooses-is reg book w a q e f =
    subst (λ (v : Watch). chosen_out v (owning_of q (picked_in reg book v a)) reg book ≡ out_of (ladder (draw_tests (state_of reg book v) a) (chooses (state_of reg book v) a))) e
    (here-is reg book a q (f ∙ ap (λ (v : Watch). window_of v a) (sym e)))
