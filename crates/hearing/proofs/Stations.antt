-- The record of a message's station: where a number stands first in a list, and that it is the lowest place.
-- Assumes nothing.
use mathlib.Core.Path.{◌≡◌, sym, ◌∙◌}
use mathlib.Core.List.{List, [], ◌∷◌}
use Prim.Native.Nat.{ℕ, zero, suc, ◌≤◌, ◌<◌}
use native.Mathlib.Decide.{ℕ_discrete}
use native.Mathlib.Omega.{arith}
use borrow.Author.Tests.{eq-eqb, ne_eqb, lt-ltb, le-ltb}
use lib.ListN.{length, get_or}
use Rattle.hearing.specs.Station.{index_of, record_of}
use Rattle.hearing.specs.Promises.{First}

-- ---- where a number stands first

module _ (x y : ℕ) (l : List ℕ) where
  -- at the first place
  here : y ≡ x → index_of x (y ∷ l) ≡ 0
  here e = simp (eq-eqb y x e)

  -- else one place later than in the rest
  later : (y ≡ x → ⊥) → index_of x (y ∷ l) ≡ suc (index_of x l)
  later n = simp (ne_eqb y x n)

-- ---- the record

-- i is where the source stands
module _ (s t : List ℕ) (x i : ℕ) (e : i ≡ index_of x s) where
  -- one with the source
  pub record-known : i < length s → i ≡ record_of s t x
  unfolding record_of
  record-known p = e ∙ sym (simp (lt-ltb (index_of x s) (length s) (rw e at p)))

  -- else the first with tally 0
  pub record-idle : (r : ℕ) → length s ≤ i → r ≡ index_of 0 t → r ≡ record_of s t x
  unfolding record_of
  record-idle r p f = f ∙ sym (simp (le-ltb (index_of x s) (length s) (rw e at p)))

-- ---- the lowest place

-- x stands at no place before: a list with one element more
module _ (x y : ℕ) (l : List ℕ) where
  before-next : ((j : ℕ) → j < index_of x l → get_or l j 0 ≡ x → ⊥) → (j : ℕ) → Dec (y ≡ x) → j < index_of x (y ∷ l) → get_or (y ∷ l) j 0 ≡ x → ⊥
  before-next h j (yes e) p z = omega (arith, here x y l e)
  before-next h zero (no n) p z = n z
  before-next h (suc j) (no n) p z = h j (omega (arith, later x y l n)) z

-- and any list
pub before-none : (x : ℕ) (l : List ℕ) (j : ℕ) → j < index_of x l → get_or l j 0 ≡ x → ⊥
before-none x [] j p z = omega arith
before-none x (y ∷ l) j p z = before-next x y l (before-none x l) j (ℕ_discrete y x) p z

-- x stands there, if anywhere
stands : (x : ℕ) (l : List ℕ) → index_of x l < length l → get_or l (index_of x l) 0 ≡ x
stands x [] p = absurd (omega arith)
stands x (y ∷ l) p = go (ℕ_discrete y x) (stands x l)
  where
    go : Dec (y ≡ x) → (index_of x l < length l → get_or l (index_of x l) 0 ≡ x) → get_or (y ∷ l) (index_of x (y ∷ l)) 0 ≡ x
    go (yes e) h = rw (here x y l e) e
    go (no n) h = rw (later x y l n) (h (omega (arith, later x y l n)))

-- so that is the lowest place
pub first-is : (x : ℕ) (l : List ℕ) → index_of x l < length l → First x l (index_of x l)
first-is x l p = record { inside = p; there = stands x l p; lowest = before-none x l }
