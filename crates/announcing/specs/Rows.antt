-- What a report announces, as rows of slot times ahead, and what it does to the book: each time ahead once, if some row has it.
-- Assumes nothing.
use Rattle.std.specs.Prelude.{ℕ, ◌+◌, ◌-◌, ◌*◌, Bool, true, false, not, List, [], ◌∷◌, eqb, leb, ltb, get_or}
use Rattle.std.specs.List.{list_all}
use Rattle.laws.specs.Tests.{both, either, pick}
use Rattle.laws.specs.Loops.{upto}
use Rattle.laws.specs.Ranges.{some, how_many}
use Rattle.limits.specs.Limits.{frame_slots, slot_times}
use Rattle.book.specs.Book.{Book, place, mark_at, free_at}
use Rattle.announcing.specs.declared.rows.Row.{Row}
use Rattle.announcing.specs.declared.rows.Kind.{Kind}
use Rattle.announcing.specs.declared.rows.Kind.TheVariants.{Mark, Free}

-- ---- the times of a row

-- d is one of the n times from a on
unfoldable pub in_run : ℕ → ℕ → ℕ → Bool
in_run a n d = both (leb a d) (ltb d (a + n))

-- the time d ahead is one of the row's: its slots from the start on, again at each step, so many times, and the same in so many frames
unfoldable pub has_time : Row → ℕ → Bool
has_time r d = some (λ f. some (λ i. in_run (r.from + r.step * i + frame_slots * f) r.slots d) r.times) r.frames

abbrev pub marks_by : Kind → Bool
marks_by Mark = true
marks_by Free = false

-- the row marks its times; else it frees them
abbrev pub marks : Row → Bool
marks r = marks_by r.kind

-- some row marks the time d ahead for the station, or frees it if the station holds it
abbrev pub marks_time : List Row → ℕ → Bool
marks_time [] d = false
marks_time (r ∷ rs) d = either (both (marks r) (has_time r d)) (marks_time rs d)

abbrev pub frees_time : List Row → ℕ → Bool
frees_time [] d = false
frees_time (r ∷ rs) d = either (both (not (marks r)) (has_time r d)) (frees_time rs d)

-- ---- the book

-- f at each time ahead that passes the test p, once, in the order of time
unfoldable pub at_times : (ℕ → Bool) → (Book → ℕ → Book) → Book → Book
at_times p f b = upto (λ c d. pick (p d) (f c d) c) b slot_times

-- the station with the holder number h: what its report frees is freed, and then what it marks is marked
unfoldable pub booked : ℕ → ℕ → List Row → Book → Book
booked present h rows b =
    at_times (marks_time rows) (λ c d. mark_at c (place present d) h) (at_times (frees_time rows) (λ c d. free_at c (place present d) h) b)

-- how many times that the report marks the holder h has
unfoldable pub held_of : ℕ → ℕ → List ℕ → List Row → ℕ
held_of present h slots rows = how_many (λ d. both (marks_time rows d) (eqb (get_or slots (place present d) 0) h)) slot_times

-- ---- rows beyond the book

-- a row without a time
abbrev pub is_empty : Row → Bool
is_empty r = either (eqb r.slots 0) (either (eqb r.times 0) (eqb r.frames 0))

-- right behind the last time of a row; 0 where it has none
unfoldable pub end_of : Row → ℕ
end_of r = pick (is_empty r) 0 (r.from + r.step * (r.times - 1) + frame_slots * (r.frames - 1) + r.slots)

-- no row reaches beyond the book
abbrev pub in_book : List Row → Bool
in_book rs = list_all (λ (r : Row). leb (end_of r) slot_times) rs
