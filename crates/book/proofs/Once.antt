-- The book and the parts of it that the code keeps: each tells the other, so that no second content meets a contract which says the book.
-- Assumes nothing.
use mathlib.Core.Path.{◌≡◌, refl, sym, ap, ◌∙◌}
use mathlib.Core.List.{List, [], ◌∷◌, ◌++◌}
use Prim.Native.Nat.{ℕ, zero, suc}
use native.Mathlib.Omega.{arith}
use lib.ListN.{length, get_or, take, drop}
use lib.Seq.{take_at, get_or_at}
use Rattle.limits.specs.Limits.{records}
use Rattle.book.specs.declared.Counts.{Counts}
use Rattle.book.specs.Book.{Book, ours, holders, book_of, counts_of, tallies_of}
use Rattle.book.specs.Promises.{BookOnce}

module _ (s t : List ℕ) (c : Counts) (l : length t ≡ records) where
  pub tallies-back : tallies_of (book_of s t c) ≡ t
  unfolding tallies_of
  tallies-back = take_at t (c.own ∷ []) records l

  own_back : get_or (book_of s t c).tallies ours 0 ≡ c.own
  own_back = get_or_at t c.own [] 0 records l

  pub counts-back : counts_of (book_of s t c) ≡ c
  unfolding counts_of
  counts-back = λ i. record { free = c.free; own = own_back i }

-- what the code keeps, where it is the book b
module _ (s t : List ℕ) (c : Counts) (b : Book) (l : length t ≡ records) (e : book_of s t c ≡ b) where
  pub slots-are : s ≡ b.slots
  slots-are = ap (λ (x : Book). x.slots) e

  pub tallies-are : t ≡ tallies_of b
  tallies-are = sym (tallies-back s t c l) ∙ ap tallies_of e

  pub counts-are : c ≡ counts_of b
  counts-are = sym (counts-back s t c l) ∙ ap counts_of e

-- a list of n + 1 numbers is the first n and the last
but_last : (n : ℕ) (l : List ℕ) → length l ≡ suc n → take n l ++ get_or l n 0 ∷ [] ≡ l
but_last n [] e = absurd (omega arith)
but_last zero (x ∷ []) e = refl
but_last zero (x ∷ y ∷ l) e = absurd (omega arith)
but_last (suc n) (x ∷ l) e = ap (λ (r : List ℕ). x ∷ r) (but_last n l (omega arith))

all-parts : (w : List ℕ) → length w ≡ holders → get_or w 0 0 ∷ (take records (drop 1 w) ++ get_or w ours 0 ∷ []) ≡ w
all-parts [] e = absurd (omega arith)
all-parts (x ∷ l) e = ap (λ (r : List ℕ). x ∷ r) (but_last records l (omega arith))

-- a book that has a tally for each holder is made of what the code keeps of it
pub parts-make : (b : Book) → length b.tallies ≡ holders → book_of b.slots (tallies_of b) (counts_of b) ≡ b
unfolding tallies_of counts_of
parts-make b e = λ i. record { slots = b.slots; tallies = all-parts b.tallies e i }

pub book-once : BookOnce
book-once s s' t t' c c' l l' e =
    (slots-are s t c _ l e, tallies-are s t c _ l e ∙ tallies-back s' t' c' l', counts-are s t c _ l e ∙ counts-back s' t' c' l')
