-- How a report is booked: what is noted of it, what is stored in its record, and the runs over the times that are freed and marked.
-- Assumes nothing.
use Rattle.std.specs.Prelude.{ℕ, suc, ◌+◌, ◌<◌, ◌≤◌, ◌≡◌, Bool, true, List, [], ◌∷◌, eqb, ltb, length, map, get_or, set, Result, Ok, Err}
use Rattle.laws.specs.Tests.{both, pick, ladder}
use Rattle.laws.specs.Counting.{one}
use Rattle.laws.specs.Loops.{upto}
use Rattle.laws.specs.Ranges.{how_many}
use Rattle.limits.specs.Limits.{slot_times, records}
use Rattle.numbers.specs.declared.Refusal.{Refusal}
use Rattle.numbers.specs.declared.Refusal.TheVariants.{NoRecord, BeyondBook}
use Rattle.ship.specs.declared.Station.{Station}
use Rattle.ship.specs.Ship.{blank}
use Rattle.book.specs.declared.Counts.{Counts}
use Rattle.book.specs.declared.Watch.{Watch}
use Rattle.book.specs.Book.{Book, book_of, place, mark_at, free_at, Puts}
use Rattle.announcing.specs.declared.rows.Kind.{Kind}
use Rattle.announcing.specs.declared.rows.Kind.TheVariants.{Mark, Free}
use Rattle.announcing.specs.Rows.{at_times, held_of, in_book}
use Rattle.announcing.specs.Next.{Next, kind_time}
use Rattle.announcing.specs.Announce.{announces, filled}
use Rattle.register.specs.declared.Turn.{Turn}
use Rattle.register.specs.declared.Reply.{Reply}
use Rattle.register.specs.declared.Answer.TheVariants.{Heard}
use Rattle.register.specs.State.{State, state_of, tallies_in, book_in, with_tally, with_counts, settle}
use Rattle.walks.specs.Out.{Out, out}
use Rattle.hearing.specs.declared.Hearing.{Hearing}
use Rattle.hearing.specs.declared.Booking.{Booking}
use Rattle.hearing.specs.Hear.{entered}

-- ---- what is to be booked

-- k is the station's record
abbrev pub booking_of : Hearing → ℕ → Booking
booking_of q k = record { watch = q.watch; telling = q.telling; at = k; rows = filled (announces q.telling.state) }

-- the report as it is booked, or why it is not
unfoldable pub noted_of : Hearing → ℕ → Result Booking Refusal
noted_of q k = ladder ((ltb k records, Err NoRecord) ∷ (in_book (announces q.telling.state), Err BeyondBook) ∷ []) (Ok (booking_of q k))

-- ---- the record with the station in it

unfoldable pub place_of : Booking → ℕ
place_of b = pick (ltb b.at records) b.at 0

abbrev pub stored_in : List Station → Booking → List Station
stored_in reg b = set reg (place_of b) (entered b.telling (get_or reg (place_of b) blank))

-- ---- the runs

unfoldable pub holder_of : Booking → ℕ
holder_of b = place_of b + 1

abbrev pub started : Counts → ℕ → Turn
started c at = record { handing = record { counts = c; old = 0; new = 0 }; at = at; left = 0; marks = 0 }

-- a place is marked for h, or freed of it
abbrev pub hand_at : Kind → Book → ℕ → ℕ → Book
hand_at Mark c at h = mark_at c at h
hand_at Free c at h = free_at c at h

-- what is done to the time d ahead
abbrev pub doing : Kind → Booking → Book → ℕ → Book
doing k b c d = hand_at k c (place b.watch.present d) (holder_of b)

-- the time d ahead is one of the kind, and the station has it
abbrev pub holds : Kind → Booking → List ℕ → ℕ → Bool
holds k b book d = both (kind_time k b.rows d) (eqb (get_or book (place b.watch.present d) 0) (holder_of b))

-- what a step needs
pub record Steps (book : List ℕ) (t : Turn) (b : Booking) : Type 0 where
  pub size : length book ≡ slot_times
  pub inside : in_book b.rows ≡ true
  pub below : t.at < slot_times
  pub few : t.marks < slot_times

pub record BooksOne (k : Kind) (book : List ℕ) (t : Turn) (b : Booking) (r : Turn) (book' : List ℕ) : Type 0 where
  pub puts : Puts (λ c. doing k b c t.at) book t.handing.counts r.handing book'
  pub station : r.handing.new < suc records
  pub next : Next (kind_time k b.rows) (t.at + 1) r.at
  pub counted : r.marks ≡ t.marks + one (eqb (get_or book' (place b.watch.present t.at) 0) (holder_of b))

-- what a run needs
pub record Booked (reg : List Station) (book : List ℕ) (b : Booking) : Type 0 where
  pub register : length reg ≡ records
  pub size : length book ≡ slot_times
  pub inside : in_book b.rows ≡ true

-- the books of a run, once what it does is done to the times of the kind before d
abbrev pub done_before : Kind → Booking → Book → ℕ → Book
done_before k b = upto (λ c d. pick (kind_time k b.rows d) (doing k b c d) c)

-- where a run that began with the register ys and the book bs stands at the turn t, with zs and cs: what lies behind is done and counted, and of the records
-- only tallies have changed
pub record Counted (k : Kind) (b : Booking) (ys : List Station) (bs : List ℕ) (t : Turn) (zs : List Station) (cs : List ℕ) : Type 0 where
  pub inside : in_book b.rows ≡ true
  pub register : length zs ≡ records
  pub same : map (λ (r : Station). with_tally r 0) zs ≡ map (λ (r : Station). with_tally r 0) ys
  pub within : t.at ≤ slot_times
  pub passes : t.at < slot_times → kind_time k b.rows t.at ≡ true
  pub done : book_of cs (tallies_in zs) t.handing.counts ≡ done_before k b (book_in (state_of ys bs b.watch)) t.at
  pub counted : t.marks ≡ how_many (holds k b cs) t.at

abbrev pub rewatched : Booking → Watch → Booking
rewatched b w = record { watch = w; telling = b.telling; at = b.at; rows = b.rows }

abbrev pub reply_of : Booking → Watch → ℕ → Reply
reply_of b w n = record { watch = w; answer = Ok (Heard (record { source = b.telling.source; marks = n })) }

-- the state once all times of the kind are done
unfoldable pub run_state : Kind → Booking → State → State
run_state k b s = settle (at_times (kind_time k b.rows) (doing k b) (book_in s)) s

-- what a run comes to: the state, and how many times of the kind the station has then
pub record BooksAll (k : Kind) (b : Booking) (reg : List Station) (book : List ℕ) (t : Turn) (reg' : List Station) (book' : List ℕ) : Type 0 where
  pub state : run_state k b (state_of reg book b.watch) ≡ state_of reg' book' (with_counts b.watch t.handing.counts)
  pub counted : t.marks ≡ how_many (holds k b book') slot_times

abbrev pub freed_out : Booking → List Station → List ℕ → Out Booking
freed_out b reg book = let s = run_state Free b (state_of reg book b.watch) in out (rewatched b s.watch) s.reg s.book

abbrev pub marked_out : Booking → List Station → List ℕ → Out Reply
marked_out b reg book =
    let s = run_state Mark b (state_of reg book b.watch) in
    out (reply_of b s.watch (held_of b.watch.present (holder_of b) s.book b.rows)) s.reg s.book
