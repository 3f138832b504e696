-- The runs over the times that are freed and marked: before the first time, one time more, and the end.
-- Assumes nothing.
use mathlib.Core.Path.{◌≡◌, refl, sym, ap, subst, ◌∙◌}
use mathlib.Core.List.{List}
use Prim.Native.Nat.{ℕ, ◌≤◌, ◌<◌}
use native.Mathlib.Omega.{arith}
use lib.ListN.{length}
use Rattle.laws.proofs.Ranges.{many-le}
use Rattle.limits.specs.Limits.{slot_times}
use Rattle.ship.specs.declared.Station.{Station}
use Rattle.book.specs.Book.{Book, book_of}
use Rattle.announcing.specs.declared.rows.Kind.{Kind}
use Rattle.announcing.specs.Rows.{at_times}
use Rattle.announcing.specs.Next.{Next, kind_time}
use Rattle.announcing.proofs.Skipping.{Gone, gone-start, gone-more, gone-all}
use Rattle.announcing.proofs.Holding.{held_start, held_more, held_all}
use Rattle.register.specs.declared.Turn.{Turn}
use Rattle.register.specs.State.{state_of, tallies_in, book_in}
use Rattle.register.proofs.Settling.{both-followed, follows, followed-bare, followed-many, settle_is}
use Rattle.hearing.specs.declared.Booking.{Booking}
use Rattle.hearing.specs.Booking.{holder_of, started, hand_at, doing, holds, Steps, BooksOne, Booked, Counted, BooksAll, run_state}
use Rattle.hearing.proofs.Turning.{hand-others}

-- what lies behind is done
abbrev Done : Kind → Booking → List Station → List ℕ → Turn → List Station → List ℕ → Type 0
Done k b ys bs t zs cs = Gone (kind_time k b.rows) (doing k b) (book_in (state_of ys bs b.watch)) (book_of cs (tallies_in zs) t.handing.counts) t.at

module _ {k : Kind} {b : Booking} {ys : List Station} {bs : List ℕ} where
  -- before the first time
  pub counts-begin : (t : Turn) (d : ℕ) → Booked ys bs b → Next (kind_time k b.rows) 0 d → t ≡ started b.watch.channel.counts d → Counted k b ys bs t ys bs
  counts-begin t d n x e =
      let g : Done k b ys bs (started b.watch.channel.counts d) ys bs = gone-start x in
      subst (λ (u : Turn). Counted k b ys bs u ys bs) (sym e)
      (record {
        inside = n.inside;
        register = n.register;
        same = refl;
        within = g.inside;
        passes = g.passes;
        done = g.is;
        counted = held_start (kind_time k b.rows) b.watch.present (holder_of b) bs d x;
      })

  module _ {s : Turn} {zs : List Station} {cs : List ℕ} (c : Counted k b ys bs s zs cs) where
    so-far : Done k b ys bs s zs cs
    so-far = record { inside = c.within; passes = c.passes; is = c.done }

    -- there is a time more
    pub step-needs : s.at < slot_times → length cs ≡ slot_times → Steps cs s b
    step-needs l size =
        record { size = size; inside = c.inside; below = l; few = omega (arith, c.counted, many-le (holds k b cs) s.at) }

    -- t is the turn after it, and the records have followed
    pub counts-more : s.at < slot_times → (t : Turn) (ds : List ℕ) → BooksOne k cs s b t ds → Counted k b ys bs t (both-followed zs t) ds
    counts-more l t ds st =
        let before = book_of cs (tallies_in zs) s.handing.counts in
        let after : book_of ds (tallies_in (both-followed zs t)) t.handing.counts ≡ doing k b before s.at =
        follows zs t c.register (λ x. doing k b x s.at) cs ds s.handing.counts st.puts in
        let g : Done k b ys bs t (both-followed zs t) ds = gone-more so-far l after st.next in
        record {
          inside = c.inside;
          register = followed-many zs t c.register;
          same = followed-bare zs t c.register (λ e. let few = st.station in omega (arith, few, e)) ∙ c.same;
          within = g.inside;
          passes = g.passes;
          done = g.is;
          counted = held_more (kind_time k b.rows) b.watch.present (holder_of b) (λ (x : Book) (at : ℕ). hand_at k x at (holder_of b)) (hand-others k (holder_of b))
              before ds s.at t.at s.marks t.marks l (c.passes l) (ap (λ (x : Book). x.slots) after) c.counted st.counted st.next;
        }

    -- nothing is left
    pub counts-end : slot_times ≤ s.at → BooksAll k b ys bs s zs cs
    unfolding run_state at_times
    counts-end l =
        let end : s.at ≡ slot_times = omega (arith, c.within) in
        record {
          state = settle_is (state_of ys bs b.watch) _ zs cs s.handing.counts c.register c.same (gone-all so-far l);
          counted = held_all (kind_time k b.rows) b.watch.present (holder_of b) cs s.at s.marks end c.counted;
        }
