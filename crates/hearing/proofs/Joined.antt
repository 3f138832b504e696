-- Both runs, one after the other: what a report frees is freed and then what it marks is marked, on one state; and the lists stay as long as they were.
-- Assumes nothing.
use mathlib.Core.Path.{◌≡◌, ap, ◌∙◌}
use mathlib.Core.List.{List}
use Prim.Native.Nat.{ℕ}
use lib.ListN.{length}
use Rattle.limits.specs.Limits.{records}
use Rattle.ship.specs.declared.Station.{Station}
use Rattle.book.specs.Book.{Book, place, holders, tallies_of}
use Rattle.book.proofs.Lengths.{SameSizes, mark-sizes, free-sizes}
use Rattle.announcing.specs.declared.rows.Kind.TheVariants.{Mark, Free}
use Rattle.announcing.specs.Rows.{marks_time, frees_time, at_times, booked, held_of}
use Rattle.announcing.proofs.Sizes.{times-sizes}
use Rattle.register.specs.declared.Reply.{Reply}
use Rattle.register.specs.State.{State, state_of, book_in, settle}
use Rattle.register.proofs.Settling.{book_in-settle, tallied-length}
use Rattle.register.proofs.Again.{all_kinds, settle-again}
use Rattle.walks.specs.Out.{Out, out}
use Rattle.hearing.specs.declared.Booking.{Booking}
use Rattle.hearing.specs.Booking.{place_of, holder_of, doing, Booked, reply_of, run_state, freed_out, marked_out}

module _ (b : Booking) where
  frees-sizes : (c : Book) → SameSizes (at_times (frees_time b.rows) (doing Free b) c) c
  frees-sizes = times-sizes (frees_time b.rows) (doing Free b) (λ c d. free-sizes c (place b.watch.present d) (holder_of b))

  marks-sizes : (c : Book) → SameSizes (at_times (marks_time b.rows) (doing Mark b) c) c
  marks-sizes = times-sizes (marks_time b.rows) (doing Mark b) (λ c d. mark-sizes c (place b.watch.present d) (holder_of b))

  -- ---- the runs may go on

  pub freed-booked : (reg : List Station) (book : List ℕ) → Booked reg book b
      → Booked (freed_out b reg book).reg (freed_out b reg book).book (freed_out b reg book).answer
  unfolding run_state settle
  freed-booked reg book n =
      let t = state_of reg book b.watch in
      let freed = at_times (frees_time b.rows) (doing Free b) (book_in t) in
      record {
        register = tallied-length reg (tallies_of freed) ∙ n.register;
        size = (frees-sizes (book_in t)).0 ∙ n.size;
        inside = n.inside;
      }

  -- ---- both

  module _ (t : State) (many : length t.reg ≡ records) where
    -- the book once everything is freed
    abbrev freed : Book
    freed = at_times (frees_time b.rows) (doing Free b) (book_in t)

    freed-kinds : length freed.tallies ≡ holders
    freed-kinds = (frees-sizes (book_in t)).1 ∙ all_kinds t many

    booked-kinds : length (at_times (marks_time b.rows) (doing Mark b) freed).tallies ≡ holders
    booked-kinds = (marks-sizes freed).1 ∙ freed-kinds

    -- freeing, marking and writing back twice is booking and writing back
    both-states : settle (at_times (marks_time b.rows) (doing Mark b) (book_in (settle freed t))) (settle freed t)
        ≡ settle (booked b.watch.present (holder_of b) b.rows (book_in t)) t
    unfolding booked
    both-states =
        ap (λ (c : Book). settle (at_times (marks_time b.rows) (doing Mark b) c) (settle freed t)) (book_in-settle t freed many freed-kinds)
        ∙ settle-again t freed (at_times (marks_time b.rows) (doing Mark b) freed) many booked-kinds

-- what is answered and left, where u is the state
abbrev pub leaving : Booking → State → Out Reply
leaving b u = out (reply_of b u.watch (held_of b.watch.present (holder_of b) u.book b.rows)) u.reg u.book

abbrev pub goes_on : Out Booking → Out Reply
goes_on o = marked_out o.answer o.reg o.book

pub both_runs : (b : Booking) (reg : List Station) (book : List ℕ) → length reg ≡ records
    → goes_on (freed_out b reg book)
    ≡ leaving b (settle (booked b.watch.present (holder_of b) b.rows (book_in (state_of reg book b.watch))) (state_of reg book b.watch))
unfolding run_state settle holder_of place_of
both_runs b reg book many =
    let t = state_of reg book b.watch in
    ap (λ (u : State). out (reply_of b u.watch (held_of b.watch.present (holder_of b) u.book b.rows)) u.reg u.book) (both-states b t many)
