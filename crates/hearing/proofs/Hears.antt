-- A report that is heard, in the words of specs/Hear.antt: what the functions give, one after the other, is what the definition says.
--     hears-is         find, noted, store, free_times and mark_times together: a report that is booked, and one that is refused
--     heard-all        so also by what each of them promises
-- Assumes nothing.
use mathlib.Core.Path.{◌≡◌, refl, sym, ap, subst, subst₃, ◌∙◌}
use mathlib.Core.Bool.{Bool, true, false}
use mathlib.Core.List.{List, [], ◌∷◌}
use Prim.Native.Nat.{ℕ, suc, ◌<◌}
use native.Mathlib.Numerals.{add-one}
use borrow.Author.Tests.{lt-ltb, ltb-true}
use lib.Dec.{ltb}
use lib.ListN.{length, get_or, set, length-set}
use Rattle.std.specs.Prelude.{Result, Ok, Err}
use Rattle.laws.specs.Tests.{ladder}
use Rattle.limits.specs.Limits.{slot_times, records}
use Rattle.numbers.specs.declared.Refusal.{Refusal}
use Rattle.numbers.specs.declared.Refusal.TheVariants.{NoRecord, BeyondBook}
use Rattle.ship.specs.declared.Station.{Station}
use Rattle.ship.specs.Ship.{blank}
use Rattle.book.specs.declared.Watch.{Watch}
use Rattle.book.specs.Book.{Book}
use Rattle.announcing.specs.declared.rows.Row.{Row}
use Rattle.announcing.specs.Rows.{booked, held_of, in_book}
use Rattle.announcing.specs.Announce.{announces, filled}
use Rattle.announcing.proofs.Filling.{few-announced, booked-filled, held-filled}
use Rattle.register.specs.declared.Reply.{Reply}
use Rattle.register.specs.State.{State, state_of, book_in, settle}
use Rattle.register.specs.Answers.{no, out_of}
use Rattle.walks.specs.Out.{Out, out, Ends}
use Rattle.hearing.specs.declared.Telling.{Telling}
use Rattle.hearing.specs.declared.Hearing.{Hearing}
use Rattle.hearing.specs.declared.Booking.{Booking}
use Rattle.hearing.specs.Hear.{record_for, entered, stored, heard, marks_of, hears, heard_answer}
use Rattle.hearing.specs.Booking.{noted_of, booking_of, place_of, holder_of, stored_in, reply_of, Booked, freed_out, marked_out}
use Rattle.hearing.proofs.Noting.{rows_inside}
use Rattle.hearing.proofs.Joined.{freed-booked, goes_on, leaving, both_runs}

-- where something is noted
record Fit (q : Hearing) (k : ℕ) (b : Booking) : Type 0 where
  pub there : k < records
  pub inside : in_book (announces q.telling.state) ≡ true
  pub is : b ≡ booking_of q k

fits : (q : Hearing) (k : ℕ) (b : Booking) → Ok b ≡ noted_of q k → Fit q k b
unfolding noted_of
fits q k b e = go (ltb k records) refl (in_book (announces q.telling.state)) refl e
  where
    go : (t : Bool) → ltb k records ≡ t → (u : Bool) → in_book (announces q.telling.state) ≡ u
        → Ok b ≡ ladder ((t, Err NoRecord) ∷ (u, Err BeyondBook) ∷ []) (Ok (booking_of q k)) → Fit q k b
    go true p true r e = record { there = ltb-true k records p; inside = r; is = cc }
    go true p false r e = cc
    go false p u r e = cc

-- ---- the whole

module _ (reg : List Station) (book : List ℕ) (w : Watch) (x : Telling) (many : length reg ≡ records) where
  abbrev s : State
  s = state_of reg book w

  abbrev q : Hearing
  q = record { watch = w; telling = x }

  -- what the code does with what is noted
  abbrev done : Booking → Out Reply
  done b = goes_on (freed_out b (stored_in reg b) book)

  -- the book of both runs, written back
  abbrev after : Booking → State → State
  after b t = settle (booked b.watch.present (holder_of b) b.rows (book_in t)) t

  done-is : (b : Booking) → done b ≡ leaving b (after b (state_of (stored_in reg b) book b.watch))
  done-is b = both_runs b (stored_in reg b) book (length-set reg _ _ ∙ many)

  -- ---- a report that is refused

  refused : (r : Refusal) → Err r ≡ noted_of q (record_for reg x.source) → heard_answer s x ≡ no s r
  unfolding noted_of
  refused r e = go (ltb (record_for reg x.source) records) (in_book (announces x.state)) e
    where
      go : (t u : Bool) → Err r ≡ ladder ((t, Err NoRecord) ∷ (u, Err BeyondBook) ∷ []) (Ok (booking_of q (record_for reg x.source)))
          → ladder ((t, no s NoRecord) ∷ (u, no s BeyondBook) ∷ []) (hears s x) ≡ no s r
      go true true e = cc
      go true false e = let why : BeyondBook ≡ r = cc in ap (no s) why
      go false u e = let why : NoRecord ≡ r = cc in ap (no s) why

  -- ---- a report that is booked

  module _ (l : record_for reg x.source < records) where
    abbrev told : List Row
    told = announces x.state

    abbrev fit : Booking
    fit = booking_of q (record_for reg x.source)

    place_is : place_of fit ≡ record_for reg x.source
    unfolding place_of
    place_is = simp (lt-ltb (record_for reg x.source) records l)

    holder-is : holder_of fit ≡ suc (record_for reg x.source)
    unfolding holder_of
    holder-is = add-one (place_of fit) ∙ ap suc place_is

    -- the station is stored in its record
    state-is : state_of (stored_in reg fit) book w ≡ stored s x
    unfolding stored
    state-is = ap (λ (i : ℕ). state_of (set reg i (entered x (get_or reg i blank))) book w) place_is

    -- what it announces is booked
    book-is : (c : Book) → booked w.present (holder_of fit) (filled told) c ≡ booked w.present (suc (record_for reg x.source)) told c
    book-is c =
        booked-filled told (few-announced x.state) w.present (holder_of fit) c ∙ ap (λ (h : ℕ). booked w.present h told c) holder-is

    heard-is : after fit (state_of (stored_in reg fit) book w) ≡ heard s x
    unfolding heard stored
    heard-is = ap (after fit) state-is ∙ ap (λ (c : Book). settle c (stored s x)) (book-is (book_in (stored s x)))

    -- and the marks are counted
    marks-is : held_of w.present (holder_of fit) (heard s x).book (filled told) ≡ marks_of s x
    unfolding marks_of
    marks-is =
        held-filled told (few-announced x.state) w.present (holder_of fit) (heard s x).book
        ∙ ap (λ (h : ℕ). held_of w.present h (heard s x).book told) holder-is

    heard-out : done fit ≡ out_of (hears s x)
    heard-out =
        done-is fit ∙ ap (leaving fit) heard-is
        ∙ ap (λ (n : ℕ). out (reply_of fit (heard s x).watch n) (heard s x).reg (heard s x).book) marks-is

  -- ---- the two together

  -- what the code comes to by what is noted: the runs, or the refusal over the register and the book as they were
  abbrev pub comes : Result Booking Refusal → Out Reply
  comes (Ok b) = done b
  comes (Err e) = out (record { watch = w; answer = Err e }) reg book

  answer-is : (b : Booking) → Fit q (record_for reg x.source) b → heard_answer s x ≡ hears s x
  answer-is b f = simp (lt-ltb (record_for reg x.source) records f.there, f.inside)

  pub hears-is : (r : Result Booking Refusal) → r ≡ noted_of q (record_for reg x.source) → comes r ≡ out_of (heard_answer s x)
  hears-is (Ok b) e =
      let f = fits q (record_for reg x.source) b e in
      ap done f.is ∙ heard-out f.there ∙ ap out_of (sym (answer-is b f))
  hears-is (Err r) e = ap out_of (sym (refused r e))

  -- ---- each step

  module _ (b : Booking) (noted : Ok b ≡ noted_of q (record_for reg x.source)) where
    pub stored-fits : (ys : List Station) → ys ≡ stored_in reg b → length book ≡ slot_times → Booked ys book b
    stored-fits ys e size =
        let f = fits q (record_for reg x.source) b noted in
        record {
          register = ap length e ∙ length-set reg _ _ ∙ many;
          size = size;
          inside = ap (λ (c : Booking). in_book c.rows) f.is ∙ rows_inside x.state ∙ f.inside;
        }

    pub heard-all : (ys : List Station) → ys ≡ stored_in reg b → (y : Booking) (zs : List Station) (cs : List ℕ) → Ends (freed_out b ys book) y zs cs
        → (r : Reply) (us : List Station) (ds : List ℕ) → Ends (marked_out y zs cs) r us ds → Ends (out_of (heard_answer s x)) r us ds
    heard-all ys e y zs cs freed r us ds marked =
        let steps : marked_out y zs cs ≡ done b = (λ i. marked_out (freed.answers i) (freed.leaves i) (freed.writes i)) ∙ ap (λ (l : List Station). goes_on (freed_out b l book)) e in
        subst (λ (o : Out Reply). Ends o r us ds) (steps ∙ hears-is (Ok b) noted) marked

-- the runs may go on
pub freed-fits : (b : Booking) (ys : List Station) (bs : List ℕ) (y : Booking) (zs : List Station) (cs : List ℕ) → Booked ys bs b
    → Ends (freed_out b ys bs) y zs cs → Booked zs cs y
freed-fits b ys bs y zs cs n e = subst₃ Booked (sym e.leaves) (sym e.writes) (sym e.answers) (freed-booked b ys bs n)
