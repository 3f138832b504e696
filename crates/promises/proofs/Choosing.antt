-- A call that chooses: a slot of the window meant, which had no own mark, is ours, in the frames after it too.
-- Assumes nothing.
use mathlib.Core.Path.{◌≡◌, refl, sym, ap, ◌∙◌}
use mathlib.Core.List.{List}
use Prim.Native.Nat.{ℕ, zero, suc, ◌+◌, ◌*◌, ◌<◌}
use native.Mathlib.Omega.{arith}
use borrow.Author.Tests.{ltb-true}
use lib.Dec.{ltb}
use lib.ListN.{length}
use Rattle.laws.specs.Tests.{between}
use Rattle.laws.specs.Exactly.{AllHold}
use Rattle.laws.specs.Loops.{upto}
use Rattle.laws.proofs.Tests.{was-false, both_left}
use Rattle.limits.specs.Limits.{frame_slots, slot_times, records, least_time_out, most_time_out}
use Rattle.ship.specs.declared.Station.{Station}
use Rattle.book.specs.Book.{Book, ours, place, holder, book_of, put_at}
use Rattle.book.proofs.Lengths.{put-sizes}
use Rattle.book.proofs.Plans.{in-range}
use Rattle.candidates.specs.Window.{distance_in, number_in}
use Rattle.candidates.specs.Promises.{Picks}
use Rattle.candidates.proofs.Promised.{pick-is-candidate}
use Rattle.choosing.specs.declared.Wanted.{Wanted}
use Rattle.choosing.specs.Choosing.{ask_fits, view_of}
use Rattle.choosing.specs.Choose.{drawn_in, chosen, choose_tests}
use Rattle.choosing.proofs.Chosen.{is_at}
use Rattle.register.specs.State.{State, book_in, sources_in, settle, owned}
use Rattle.register.proofs.Settling.{book_in-settle}
use Rattle.register.proofs.Again.{all_kinds}
use Rattle.calls.specs.Calls.{plan_in}
use Rattle.choosing.specs.ChoosePromises.{window_in}
use Rattle.promises.proofs.Moves.{Fine, owned_in, ChosenBy}
use Rattle.promises.proofs.Written.{as_many, written-sources, written-present, written-plan, held_stays}

-- ---- one place that becomes ours

module _ (s : State) (at : ℕ) (many : length s.reg ≡ records) where
  -- the book with the place ours, and the state with it written back
  abbrev put : Book
  put = put_at (book_in s) at ours

  abbrev written : State
  written = settle put s

  owned-book : book_in (owned s at) ≡ put
  unfolding owned
  owned-book =
      ap (λ (ts : List ℕ). book_of written.book ts written.watch.channel.counts)
      (held_stays (λ (r : Station). r.tally) (λ r h. refl) (holder (book_in s) at) written.reg)
      ∙ book_in-settle s put many ((put-sizes (book_in s) at ours).1 ∙ all_kinds s many)

  owned-sources : sources_in (owned s at).reg ≡ sources_in s.reg
  unfolding owned
  owned-sources =
      held_stays (λ (r : Station). r.source) (λ r h. refl) (holder (book_in s) at) written.reg ∙ written-sources put s

  owned-present : (owned s at).watch.present ≡ s.watch.present
  unfolding owned
  owned-present = written-present put s

  owned-plan : plan_in (owned s at) ≡ plan_in s
  unfolding owned
  owned-plan = written-plan put s

-- ---- n places, a frame apart

-- the slot x ahead is ours, n times in all; sources, now and plan are as they were
record OwnedBy (x n : ℕ) (s s' : State) : Type 0 where
  book : book_in s' ≡ owned_in s.watch.present x (book_in s) n
  sources : sources_in s'.reg ≡ sources_in s.reg
  present : s'.watch.present ≡ s.watch.present
  plan : plan_in s' ≡ plan_in s

module _ (s : State) (f : Fine s) (x : ℕ) where
  abbrev owns : ℕ → State
  owns = upto (λ t i. owned t (place s.watch.present (x + frame_slots * i))) s

  owns-by : (n : ℕ) → OwnedBy x n s (owns n)
  unfolding upto
  owns-by zero = record { book = refl; sources = refl; present = refl; plan = refl }
  owns-by (suc n) =
      let t = owns n in
      let b = owns-by n in
      let at : ℕ = place s.watch.present (x + frame_slots * n) in
      let many : length t.reg ≡ records = as_many s.reg t.reg b.sources ∙ f.register in
      record {
        book = owned-book t at many ∙ ap (λ (c : Book). put_at c at ours) b.book;
        sources = owned-sources t at many ∙ b.sources;
        present = owned-present t at many ∙ b.present;
        plan = owned-plan t at many ∙ b.plan;
      }

  chosen_by : (m : ℕ) → OwnedBy x (suc m) s (chosen s x m)
  unfolding chosen
  chosen_by m = owns-by (suc m)

-- ---- the call

module _ (s : State) (a : Wanted) (f : Fine s) (held : AllHold (choose_tests s a)) where
  abbrev drawn : ℕ
  drawn = distance_in (drawn_in s a)

  picks : Picks (view_of s.reg s.book s.watch) (window_in s a) drawn (number_in (drawn_in s a))
  unfolding choose_tests
  picks =
      let found = is_at _ _ _ (was-false held.1.1.1.1.0) (was-false held.1.1.1.1.1.0) in
      pick-is-candidate (view_of s.reg s.book s.watch) (window_in s a) a.draw drawn (number_in (drawn_in s a)) found

  known : a.k < (plan_in s).rate
  unfolding choose_tests ask_fits
  known = ltb-true a.k (plan_in s).rate (both_left (ltb a.k (plan_in s).rate) (between least_time_out most_time_out a.timeout) held.1.1.0)

  pub choose-moves : (d : ℕ) → d ≡ drawn → ChosenBy a d s (chosen s drawn a.timeout)
  unfolding choose_tests
  choose-moves d e =
      let b = chosen_by s f drawn a.timeout in
      let last = ltb-true (drawn + frame_slots * a.timeout) slot_times held.1.1.1.1.1.1 in
      record {
        ranged = in-range (plan_in s) held.1.0;
        known = known;
        free = was-false held.1.1.1.0;
        from = omega (arith, e, picks.there);
        to = omega (arith, e, picks.there, picks.candidate.inside);
        within = omega (arith, e, last);
        book = b.book ∙ ap (λ (x : ℕ). owned_in s.watch.present x (book_in s) (suc a.timeout)) (sym e);
        sources = b.sources;
        present = b.present;
        plan = b.plan;
      }
