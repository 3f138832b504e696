-- The slot book: what a mark, a freeing and a release do to it.
-- Assumes nothing.
use Rattle.std.specs.Prelude.{◌≡◌, ℕ, ◌+◌, ◌-◌, ◌%◌, min, max, Bool, List, [], ◌∷◌, ◌++◌, length, get_or, set, take, drop, eqb, ltb}
use Rattle.laws.specs.Tests.{pick, both}
use Rattle.laws.specs.Loops.{upto}
use Rattle.limits.specs.Limits.{slot_times, records}
use Rattle.book.specs.declared.Counts.{Counts}
use Rattle.book.specs.declared.Handing.{Handing}

-- the holders by their numbers: 0 none, then the records in order, then own
abbrev pub ours : ℕ
ours = records + 1

abbrev pub holders : ℕ
holders = records + 2

unfoldable pub is_record : ℕ → Bool
is_record h = both (ltb 0 h) (ltb h ours)

-- the place of a holder's record; the first one's for a holder without
unfoldable pub record_at : ℕ → ℕ
record_at h = pick (is_record h) (h - 1) 0

-- ---- tallies

-- one more, stopping at 20,250 (a number above it stays); one less, stopping at 0
abbrev pub raised : ℕ → ℕ
raised x = max x (min (x + 1) slot_times)

abbrev pub lowered : ℕ → ℕ
lowered x = x - 1

-- the tallies of all holders in one list, by their numbers: the free count, the records' tallies, the own tally
abbrev pub wide : Counts → List ℕ → List ℕ
wide c t = c.free ∷ (t ++ c.own ∷ [])

-- the element at h changed by f; a number past the end changes nothing
unfoldable pub alter : (ℕ → ℕ) → List ℕ → ℕ → List ℕ
alter f t h = set t h (f (get_or t h 0))

-- the tally of the holder h falls or rises by one; a number that is no holder has no tally
abbrev pub lower : List ℕ → ℕ → List ℕ
lower = alter lowered

abbrev pub raise : List ℕ → ℕ → List ℕ
raise = alter raised

-- ---- the book: the holder of each place, and the tally of each holder

pub record Book : Type 0 where
  pub slots : List ℕ
  pub tallies : List ℕ

-- from what the code keeps, and back
abbrev pub book_of : List ℕ → List ℕ → Counts → Book
book_of s t c = record { slots = s; tallies = wide c t }

unfoldable pub counts_of : Book → Counts
counts_of b = record { free = get_or b.tallies 0 0; own = get_or b.tallies ours 0 }

unfoldable pub tallies_of : Book → List ℕ
tallies_of b = take records (drop 1 b.tallies)

-- the place of the time d ahead, counted round the list; a now out of range is taken modulo its range
abbrev pub place : ℕ → ℕ → ℕ
place present d = (present % slot_times + d) % slot_times

-- who holds a place
abbrev pub holder : Book → ℕ → ℕ
holder b at = get_or b.slots at 0

-- ---- what happens to a place

-- it goes to the holder h, whoever holds it: the old holder's tally falls, then the new one's rises
unfoldable pub put_at : Book → ℕ → ℕ → Book
put_at b at h = record { slots = set b.slots at h; tallies = raise (lower b.tallies (holder b at)) h }

-- the holders whose marks no station's mark replaces
unfoldable pub kept : ℕ → Bool
kept x = eqb x ours

-- it is marked for the station h: a mark replaces another station's mark, never our own
unfoldable pub mark_at : Book → ℕ → ℕ → Book
mark_at b at h = pick (kept (holder b at)) b (put_at b at h)

-- it is freed if h holds it
unfoldable pub free_at : Book → ℕ → ℕ → Book
free_at b at h = pick (eqb (holder b at) h) (put_at b at 0) b

-- the marks of h at the places below k are released
abbrev pub released : ℕ → Book → ℕ → Book
released h = upto (λ b at. free_at b at h)

-- ---- the same where each record keeps its own tally: the counts, and the records' tallies t

-- the count of nobody, or our own, changed by f where h is that holder
unfoldable pub counts_by : (ℕ → ℕ) → Counts → ℕ → Counts
counts_by f c h =
    pick (eqb h 0) (record { free = f c.free; own = c.own })
    (pick (eqb h ours) (record { free = c.free; own = f c.own }) c)

-- the same by a step that is known by what it may give, whatever it computes
abbrev pub CountsBy : (ℕ → ℕ → Type 0) → Counts → ℕ → Counts → Type 0
CountsBy gives c h d = (f : ℕ → ℕ) → ((x y : ℕ) → gives x y → y ≡ f x) → d ≡ counts_by f c h

-- the tally of the holder h changed by f where h is a record
unfoldable pub tallies_by : (ℕ → ℕ) → List ℕ → ℕ → List ℕ
tallies_by f t h = pick (is_record h) (set t (h - 1) (f (get_or t (h - 1) 0))) t

-- once the records have followed: who has lost a place has one less, and then who has got it one more
abbrev pub followed : List ℕ → Handing → List ℕ
followed t p = tallies_by raised (tallies_by lowered t p.old) p.new

-- f was done to the book, once the records have followed, whatever their tallies were
abbrev pub Puts : (Book → Book) → List ℕ → Counts → Handing → List ℕ → Type 0
Puts f s c p s' = (t : List ℕ) → length t ≡ records → book_of s' (followed t p) p.counts ≡ f (book_of s t c)

-- f was done to the book, and no record has to follow
abbrev pub Gives : (Book → Book) → List ℕ → Counts → Counts → List ℕ → Type 0
Gives f s c d s' = (t : List ℕ) → length t ≡ records → book_of s' t d ≡ f (book_of s t c)
