-- What is promised of the book, beyond what each operation's contract says. Proved in proofs/Soundness.antt, proofs/Once.antt and
-- proofs/Releasing.antt.
-- Assumes nothing.
use Rattle.std.specs.Prelude.{ℕ, ◌+◌, ◌≤◌, ◌<◌, ◌≡◌, List, length, get_or, replicate}
use Rattle.laws.specs.Counting.{sum}
use Rattle.limits.specs.Limits.{slot_times, records}
use Rattle.book.specs.declared.Counts.{Counts}
use Rattle.book.specs.Book.{Book, holders, book_of, put_at, mark_at, free_at, released}
use Rattle.book.specs.Pass.{Moment, passes}
use Rattle.book.specs.Sound.{Sound}

-- ---- demand 3

-- a book of n slot times that holds nothing, with m records; the sizes are arguments, so that no proof writes the lists out
unfoldable pub new_book : ℕ → ℕ → Book
new_book n m = book_of (replicate n 0) (replicate m 0) (record { free = n; own = 0 })

abbrev pub NewIsSound : Type 0
NewIsSound = Sound (new_book slot_times records)

-- whoever gets a place, whatever is marked, freed, released or passes
abbrev pub PutKeeps : Type 0
PutKeeps = (b : Book) (at h : ℕ) → at < slot_times → h < holders → Sound b → Sound (put_at b at h)

abbrev pub MarkKeeps : Type 0
MarkKeeps = (b : Book) (at h : ℕ) → at < slot_times → h < holders → Sound b → Sound (mark_at b at h)

abbrev pub FreeKeeps : Type 0
FreeKeeps = (b : Book) (at h : ℕ) → at < slot_times → Sound b → Sound (free_at b at h)

abbrev pub ReleaseKeeps : Type 0
ReleaseKeeps = (b : Book) (h k : ℕ) → k ≤ slot_times → Sound b → Sound (released h b k)

abbrev pub PassKeeps : Type 0
PassKeeps = (m : Moment) (n : ℕ) → Sound m.book → Sound (passes m n).book

-- free count, records' tallies and own tally make 20,250
abbrev pub AllMakeTheWhole : Type 0
AllMakeTheWhole = (s t : List ℕ) (c : Counts) → Sound (book_of s t c) → c.free + sum t + c.own ≡ slot_times

-- a release leaves the holder nothing
abbrev pub ReleaseLeavesNone : Type 0
ReleaseLeavesNone = (b : Book) (h : ℕ) → 0 < h → h < holders → Sound b → get_or (released h b slot_times).tallies h 0 ≡ 0

-- ---- one answer

-- no second content meets a contract that says what the book is
abbrev pub BookOnce : Type 0
BookOnce =
    (s s' t t' : List ℕ) (c c' : Counts) → length t ≡ records → length t' ≡ records
    → book_of s t c ≡ book_of s' t' c' → (s ≡ s') × (t ≡ t') × (c ≡ c')
