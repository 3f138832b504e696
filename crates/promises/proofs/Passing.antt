-- A call with passes alone: so many slots have passed, and nothing else has changed.
-- Assumes nothing.
use mathlib.Core.Path.{◌≡◌, refl, sym, ap, subst, ◌∙◌}
use mathlib.Core.List.{List, [], ◌∷◌, map}
use Prim.Native.Nat.{ℕ, zero, suc, ◌+◌, ◌-◌, ◌%◌}
use lib.Dec.{eqb}
use lib.ListN.{length}
use Rattle.laws.specs.Loops.{upto}
use Rattle.laws.proofs.Tests.{either_true}
use Rattle.limits.specs.Limits.{slot_times, records}
use Rattle.ship.specs.declared.Station.{Station}
use Rattle.book.specs.Book.{Book, book_of, put_at}
use Rattle.book.specs.Pass.{passed as passed-in}
use Rattle.book.proofs.Lengths.{put-sizes}
use Rattle.register.specs.declared.Answer.TheVariants.{Passed}
use Rattle.register.specs.State.{State, book_in, sources_in, with_hold, settle, passed as passed-one, passes}
use Rattle.register.specs.Answers.{Answered, answered}
use Rattle.register.proofs.Settling.{book_in-settle}
use Rattle.register.proofs.Again.{all_kinds}
use Rattle.calls.specs.declared.What.TheVariants.{Nothing}
use Rattle.calls.specs.Calls.{plan_in, pass, called}
use Rattle.calls.proofs.Doing.{passes-keep, sized-alike}
use Rattle.promises.specs.Calls.{after_call}
use Rattle.promises.proofs.Moves.{Fine, moment_in, PassedBy}
use Rattle.promises.proofs.Written.{fine-sized, as_many, written-sources}

-- ---- one slot

-- hold-offs that fall change nothing else
held-apart : {A : Type 0} (f : Station → A) → ((r : Station) (h : ℕ) → f (with_hold r h) ≡ f r) → (reg : List Station)
    → map f (map (λ (r : Station). with_hold r (r.hold - 1)) reg) ≡ map f reg
held-apart f same [] = refl
held-apart f same (r ∷ reg) = λ i. same r (r.hold - 1) i ∷ held-apart f same reg i

module _ (s : State) (many : length s.reg ≡ records) where
  -- the book without its present slot, and the state with it written back
  abbrev freed : Book
  freed = put_at (book_in s) (s.watch.present % slot_times) 0

  abbrev written : State
  written = settle freed s

  book-is : book_in (passed-one s) ≡ freed
  unfolding passed-one
  book-is =
      ap (λ (ts : List ℕ). book_of written.book ts written.watch.channel.counts)
      (held-apart (λ (r : Station). r.tally) (λ r h. refl) written.reg)
      ∙ book_in-settle s freed many ((put-sizes (book_in s) (s.watch.present % slot_times) 0).1 ∙ all_kinds s many)

  passed-sources : sources_in (passed-one s).reg ≡ sources_in s.reg
  unfolding passed-one
  passed-sources = held-apart (λ (r : Station). r.source) (λ r h. refl) written.reg ∙ written-sources freed s

  passed-moment : moment_in (passed-one s) ≡ passed-in (moment_in s)
  unfolding passed-one settle passed-in
  passed-moment = λ i. record { book = book-is i; present = (s.watch.present % slot_times + 1) % slot_times }

  passed-plan : plan_in (passed-one s) ≡ plan_in s
  unfolding passed-one settle
  passed-plan = refl

-- ---- n slots

module _ (s : State) (f : Fine s) where
  passes-by : (n : ℕ) → PassedBy n s (passes s n)
  unfolding upto
  passes-by zero = record { moment = refl; sources = refl; plan = refl }
  passes-by (suc n) =
      let t = passes s n in
      let b = passes-by n in
      let many : length t.reg ≡ records = as_many s.reg t.reg b.sources ∙ f.register in
      record {
        moment = passed-moment t many ∙ ap passed-in b.moment;
        sources = passed-sources t many ∙ b.sources;
        plan = passed-plan t many ∙ b.plan;
      }

  -- with its lengths the call leaves the state that the slots leave
  call-is : (n : ℕ) (bytes : List ℕ) → called s n bytes Nothing ≡ answered Passed (passes s n)
  unfolding called pass
  call-is n bytes = rw (fine-sized s f, either_true (eqb n 0), sized-alike s (passes s n) (passes-keep s n) ∙ fine-sized s f)

  state-is : (n : ℕ) (bytes : List ℕ) → after_call s (record { passes = n; bytes = bytes; what = Nothing }) ≡ passes s n
  unfolding after_call
  state-is n bytes = ap (λ (a : Answered). a.state) (call-is n bytes)

pub passed : (s : State) (n : ℕ) (bytes : List ℕ) → Fine s → PassedBy n s (after_call s (record { passes = n; bytes = bytes; what = Nothing }))
passed s n bytes f = subst (PassedBy n s) (sym (state-is s f n bytes)) (passes-by s f n)
