-- One time freed or marked, as the code does it.
-- Assumes nothing.
use mathlib.Core.Path.{◌≡◌, ap, ap₂, ◌∙◌}
use mathlib.Core.List.{List}
use Prim.Native.Nat.{ℕ, ◌+◌, ◌≤◌}
use native.Mathlib.Omega.{arith}
use lib.Dec.{eqb}
use lib.ListN.{get_or}
use Rattle.laws.specs.Counting.{one}
use Rattle.limits.specs.Limits.{records}
use Rattle.book.specs.declared.Handing.{Handing}
use Rattle.book.specs.Book.{Book, book_of, holder, place, Puts}
use Rattle.announcing.specs.declared.rows.Kind.{Kind}
use Rattle.announcing.specs.declared.rows.Kind.TheVariants.{Mark, Free}
use Rattle.announcing.specs.Next.{Next, kind_time}
use Rattle.announcing.proofs.Effect.{marks, frees}
use Rattle.register.specs.declared.Turn.{Turn}
use Rattle.hearing.specs.declared.Booking.{Booking}
use Rattle.hearing.specs.Booking.{holder_of, hand_at, BooksOne}

-- p is the time's place and h the station's number
pub books-one :
    (k : Kind) (book book' : List ℕ) (t : Turn) (b : Booking) (p h : ℕ) → p ≡ place b.watch.present t.at → h ≡ holder_of b → h ≤ records
    → (given : Handing) → given.new ≤ h → Puts (λ c. hand_at k c p h) book t.handing.counts given book'
    → (n : ℕ) → n ≡ one (eqb (get_or book' p 0) h) → (next : ℕ) → Next (kind_time k b.rows) (t.at + 1) next
    → BooksOne k book t b (record { handing = given; at = next; left = 0; marks = t.marks + n }) book'
books-one k book book' t b p h there ours few given station puts n counted next is =
    record {
      puts = λ ts e. puts ts e ∙ ap₂ (hand_at k (book_of book ts t.handing.counts)) there ours;
      station = omega arith;
      next = is;
      counted = ap (λ (m : ℕ). t.marks + m) (counted ∙ ap₂ (λ (a x : ℕ). one (eqb (get_or book' a 0) x)) there ours);
    }

-- every other place stays as it is
pub hand-others : (k : Kind) (h : ℕ) (b : Book) (at q : ℕ) → (q ≡ at → ⊥) → holder (hand_at k b at h) q ≡ holder b q
hand-others Mark h = (marks h).other
hand-others Free h = (frees h).other
