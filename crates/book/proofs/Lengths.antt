-- Whatever happens to a book leaves its two lists as long as they were.
-- Assumes nothing.
use mathlib.Core.Path.{◌≡◌, refl, ◌∙◌}
use Prim.Native.Nat.{ℕ, ◌%◌}
use native.Mathlib.Omega.{arith}
use lib.Dec.{eqb}
use lib.ListN.{length, drop, length-set, length-take, length-drop}
use Rattle.laws.proofs.Tests.{pick-has}
use Rattle.laws.proofs.Upto.{upto-keeps}
use Rattle.limits.specs.Limits.{slot_times, records}
use Rattle.book.specs.Book.{Book, holders, raised, lowered, holder, kept, tallies_of, put_at, mark_at, free_at, released}
use Rattle.book.specs.Pass.{Moment, passed, passes}
use Rattle.book.proofs.Soundness.{length-alter}

abbrev pub SameSizes : Book → Book → Type 0
SameSizes b c = (length b.slots ≡ length c.slots) × (length b.tallies ≡ length c.tallies)

-- where all holders have a tally, all records have one
pub all-records : (b : Book) → length b.tallies ≡ holders → length (tallies_of b) ≡ records
unfolding tallies_of
all-records b e = omega (arith, length-take records (drop 1 b.tallies), length-drop 1 b.tallies)

-- ---- one place

pub put-sizes : (b : Book) (at h : ℕ) → SameSizes (put_at b at h) b
unfolding put_at
put-sizes b at h = (length-set b.slots at h, length-alter raised _ h ∙ length-alter lowered b.tallies (holder b at))

pub mark-sizes : (b : Book) (at h : ℕ) → SameSizes (mark_at b at h) b
unfolding mark_at
mark-sizes b at h = pick-has (λ (x : Book). SameSizes x b) (kept (holder b at)) b (put_at b at h) (refl, refl) (put-sizes b at h)

pub free-sizes : (b : Book) (at h : ℕ) → SameSizes (free_at b at h) b
unfolding free_at
free-sizes b at h = pick-has (λ (x : Book). SameSizes x b) (eqb (holder b at) h) (put_at b at 0) b (put-sizes b at 0) (refl, refl)

-- ---- many places

pub released-sizes : (h : ℕ) (b : Book) (n : ℕ) → SameSizes (released h b n) b
released-sizes h b n =
    upto-keeps _ b (λ (x : Book). SameSizes x b) n (λ x i l e. let f = free-sizes x i h in (f.0 ∙ e.0, f.1 ∙ e.1)) (refl, refl)

pub passes-sizes : (m : Moment) (n : ℕ) → SameSizes (passes m n).book m.book
unfolding passed
passes-sizes m n =
    upto-keeps _ m (λ (x : Moment). SameSizes x.book m.book) n
    (λ x i l e. let p = put-sizes x.book (x.present % slot_times) 0 in (p.0 ∙ e.0, p.1 ∙ e.1)) (refl, refl)
