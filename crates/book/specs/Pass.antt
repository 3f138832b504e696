-- Passing: the book at a slot, one slot on, and n slots on.
-- Assumes nothing.
use Rattle.std.specs.Prelude.{ℕ, ◌+◌, ◌%◌}
use Rattle.laws.specs.Loops.{upto}
use Rattle.limits.specs.Limits.{slot_times}
use Rattle.book.specs.Book.{Book, put_at}

-- the book, and now: the place of the present slot
pub record Moment : Type 0 where
  pub book : Book
  pub present : ℕ

-- the present slot becomes free and now moves on by one; a now out of range is taken modulo its range
unfoldable pub passed : Moment → Moment
passed m = record { book = put_at m.book (m.present % slot_times) 0; present = (m.present % slot_times + 1) % slot_times }

abbrev pub passes : Moment → ℕ → Moment
passes = upto (λ m i. passed m)
