-- Demand 3: each tally is the number of slot times that its holder has, counted in the book itself.
-- Assumes nothing.
use Rattle.std.specs.Prelude.{◌≡◌, ℕ, ◌<◌, length, get_or}
use Rattle.laws.specs.Counting.{count}
use Rattle.limits.specs.Limits.{slot_times}
use Rattle.book.specs.Book.{Book, holders, holder}

-- a tally for each holder, 20,250 places that each name one of the holders, and each tally is the number of its holder's places
pub record Sound (b : Book) : Type 0 where
  pub size : length b.slots ≡ slot_times
  pub kinds : length b.tallies ≡ holders
  pub held : (at : ℕ) → at < length b.slots → holder b at < holders
  pub right : (h : ℕ) → h < holders → get_or b.tallies h 0 ≡ count h b.slots
