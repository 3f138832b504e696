-- The lengths of register and book last through each thing that can happen.
-- Assumes nothing.
use mathlib.Core.Path.{◌≡◌, refl, sym, ap, ◌∙◌}
use Prim.Native.Nat.{ℕ, suc}
use lib.ListN.{length, length-map, length-set, length-replicate}
use Rattle.limits.specs.Limits.{slot_times, records}
use Rattle.book.specs.Book.{Book, ours}
use Rattle.book.specs.Pass.{Moment, passes}
use Rattle.book.proofs.Lengths.{SameSizes, released-sizes, passes-sizes}
use Rattle.announcing.specs.Announce.{announces}
use Rattle.announcing.proofs.Effect.{booked-sizes}
use Rattle.register.specs.State.{State, new_state, sources_in, book_in}
use Rattle.promises.proofs.Lengths.{frames-sizes}
use Rattle.promises.proofs.Moves.{Fine, moment_in, record_in}
use Rattle.promises.proofs.Stands.{Stands}

-- ---- a new state

module _ (n m : ℕ) where
  new-sizes : (length (new_state n m).reg ≡ m) × (length (new_state n m).book ≡ n)
  unfolding new_state
  new-sizes = (length-replicate m _, length-replicate n 0)

  pub new-present : (new_state n m).watch.present ≡ 0
  unfolding new_state
  new-present = refl

fine-new : Fine (new_state slot_times records)
fine-new = let sizes = new-sizes slot_times records in record { register = sizes.0; book = sizes.1 }

-- ---- whatever happens

-- as many records as sources, and as many slot times as in a book of the same sizes
fine-by : (s s' : State) → Fine s → (b : Book) → length (sources_in s'.reg) ≡ length (sources_in s.reg) → book_in s' ≡ b → SameSizes b (book_in s)
    → Fine s'
fine-by s s' f b sources book sizes =
    record {
      register = sym (length-map s'.reg _) ∙ sources ∙ length-map s.reg _ ∙ f.register;
      book = ap (λ (x : Book). length x.slots) book ∙ sizes.0 ∙ f.book;
    }

pub lasting : Stands (λ s es. Fine s)
lasting =
    record {
      new = fine-new;
      passing = λ s s' es n f b p.
          let m = moment_in s in
          fine-by s s' f (passes m n).book (ap length b.sources) (ap (λ (x : Moment). x.book) b.moment) (passes-sizes m n);
      staying = λ s s' es b p. fine-by s s' p (book_in s) (ap length b.sources) b.book (refl, refl);
      hearing = λ s s' es x f b p.
          let sources = ap length b.sources ∙ length-set (sources_in s.reg) (record_in s x) x.source in
          let sizes = booked-sizes s.watch.present (suc (record_in s x)) (announces x.state) (book_in s) in
          fine-by s s' f _ sources b.book sizes;
      planning = λ s s' es f b p. fine-by s s' f _ (ap length b.sources) b.book (released-sizes ours (book_in s) slot_times);
      choosing = λ s s' es a d f b p.
          let sizes = frames-sizes s.watch.present (d) (book_in s) (suc a.timeout) in
          fine-by s s' f _ (ap length b.sources) b.book sizes;
    }
