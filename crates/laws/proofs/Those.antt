-- The list of the numbers that pass a test: how long it is, that it rises, and what stands in it.
-- Assumes nothing.
use mathlib.Core.Path.{◌≡◌, refl, sym, ap, ◌∙◌, subst}
use mathlib.Core.Bool.{Bool, true, false}
use mathlib.Core.List.{List, [], ◌∷◌, ◌++◌}
use Prim.Native.Nat.{ℕ, zero, suc, ◌+◌, ◌≤◌, ◌<◌}
use native.Mathlib.Nat.{not-suc-le-zero, add-zero, add-suc, suc-add, zero-add}
use native.Mathlib.Decide.{ℕ_discrete, dec_lt}
use native.Mathlib.Omega.{arith}
use lib.ListN.{length, get_or}
use Rattle.laws.specs.Tests.{pick}
use Rattle.laws.specs.Counting.{one}
use Rattle.laws.specs.Ranges.{how_many, those}
use Rattle.laws.proofs.Sums.{sums, sums-ext, sums-front, many-sums, one-true, one-false}

module _ (p : ℕ → Bool) (i n : ℕ) where
  pub those-yes : p i ≡ true → those p i (suc n) ≡ i ∷ those p (suc i) n
  unfolding those
  those-yes e = rw e

  pub those-no : p i ≡ false → those p i (suc n) ≡ those p (suc i) n
  unfolding those
  those-no e = rw e

pub those-none : (p : ℕ → Bool) (i : ℕ) → those p i 0 ≡ []
unfolding those
those-none p i = refl

-- by whether the next number passes
module _ (p : ℕ → Bool) (i n : ℕ) (P : List ℕ → Type 0) (yes' : p i ≡ true → P (i ∷ those p (suc i) n)) (no' : p i ≡ false → P (those p (suc i) n)) where
  pub those-cases : P (those p i (suc n))
  those-cases = go (p i) refl
    where
      go : (b : Bool) → p i ≡ b → P (those p i (suc n))
      go true e = subst P (sym (those-yes p i n e)) (yes' e)
      go false e = subst P (sym (those-no p i n e)) (no' e)

pub length-those : (p : ℕ → Bool) (i n : ℕ) → length (those p i n) ≡ sums (λ k. one (p (i + k))) n
unfolding sums
length-those p i zero = ap length (those-none p i)
length-those p i (suc n) =
    those-cases p i n (λ l. length l ≡ sums (λ k. one (p (i + k))) (suc n))
    (λ e. omega (arith, front, one-true e, length-those p (suc i) n))
    (λ e. omega (arith, front, one-false e, length-those p (suc i) n))
  where
    front : sums (λ k. one (p (i + k))) (suc n) ≡ one (p i) + sums (λ k. one (p (suc i + k))) n
    front =
        sums-front (λ k. one (p (i + k))) n
        ∙ omega (arith, ap (λ k. one (p k)) (add-zero i), sums-ext (λ k. one (p (i + suc k))) (λ k. one (p (suc i + k))) n (λ k l. ap (λ m. one (p m)) (add-suc i k ∙ sym (suc-add i k))))

pub count-those : (p : ℕ → Bool) (n : ℕ) → length (those p 0 n) ≡ how_many p n
count-those p n = length-those p 0 n ∙ sums-ext (λ k. one (p (0 + k))) (λ k. one (p k)) n (λ k l. ap (λ m. one (p m)) (zero-add k)) ∙ sym (many-sums p n)

pub record Stands (p : ℕ → Bool) (i n x : ℕ) : Type 0 where
  pub low : i ≤ x
  pub high : x < i + n
  pub passes : p x ≡ true

pub those-in : (p : ℕ → Bool) (i n k : ℕ) → k < length (those p i n) → Stands p i n (get_or (those p i n) k 0)
those-in p i zero k l = absurd (not-suc-le-zero (rw (those-none p i) at l))
those-in p i (suc n) k l =
    those-cases p i n (λ (t : List ℕ). (k : ℕ) → k < length t → Stands p i (suc n) (get_or t k 0))
    (λ e. at_head e (those-in p (suc i) n))
    (λ e k l. wider (those-in p (suc i) n k l))
    k l
  where
    wider : {x : ℕ} → Stands p (suc i) n x → Stands p i (suc n) x
    wider s = record { low = omega arith; high = omega arith; passes = s.passes }

    at_head : p i ≡ true → ((k : ℕ) → k < length (those p (suc i) n) → Stands p (suc i) n (get_or (those p (suc i) n) k 0))
        → (k : ℕ) → k < length (i ∷ those p (suc i) n) → Stands p i (suc n) (get_or (i ∷ those p (suc i) n) k 0)
    at_head e rest zero l = record { low = omega arith; high = omega arith; passes = e }
    at_head e rest (suc k) l = wider (rest k (omega arith))

pub those-rise : (p : ℕ → Bool) (i n k l : ℕ) → k < l → l < length (those p i n) → get_or (those p i n) k 0 < get_or (those p i n) l 0
those-rise p i zero k l m q = absurd (not-suc-le-zero (rw (those-none p i) at q))
those-rise p i (suc n) k l m q =
    those-cases p i n (λ (t : List ℕ). (k l : ℕ) → k < l → l < length t → get_or t k 0 < get_or t l 0)
    (λ e. at_head (those-rise p (suc i) n))
    (λ e. those-rise p (suc i) n)
    k l m q
  where
    at_head : ((k l : ℕ) → k < l → l < length (those p (suc i) n) → get_or (those p (suc i) n) k 0 < get_or (those p (suc i) n) l 0)
        → (k l : ℕ) → k < l → l < length (i ∷ those p (suc i) n) → get_or (i ∷ those p (suc i) n) k 0 < get_or (i ∷ those p (suc i) n) l 0
    at_head rest k zero m q = absurd (not-suc-le-zero m)
    at_head rest zero (suc l) m q = omega (arith, (those-in p (suc i) n l (omega arith)).low)
    at_head rest (suc k) (suc l) m q = rest k l (omega arith) (omega arith)

-- no number stands in it twice
pub those-apart : (p : ℕ → Bool) (i n k l : ℕ) → k < length (those p i n) → l < length (those p i n) → get_or (those p i n) k 0 ≡ get_or (those p i n) l 0 → k ≡ l
those-apart p i n k l a b e = go (dec_lt k l) (dec_lt l k)
  where
    go : Dec (k < l) → Dec (l < k) → k ≡ l
    go (yes m) r = absurd (omega (arith, those-rise p i n k l m b))
    go (no m) (yes r) = absurd (omega (arith, those-rise p i n l k r a))
    go (no m) (no r) = omega arith

pub record Place (t : List ℕ) (x : ℕ) : Type 0 where
  pub place : ℕ
  pub inside : place < length t
  pub is : get_or t place 0 ≡ x

-- every number that passes stands in it
pub those-has : (p : ℕ → Bool) (i n x : ℕ) → i ≤ x → x < i + n → p x ≡ true → Place (those p i n) x
those-has p i zero x a b e = absurd (omega arith)
those-has p i (suc n) x a b e = go (ℕ_discrete x i) (λ m. those-has p (suc i) n x m (omega arith) e)
  where
    go : Dec (x ≡ i) → (suc i ≤ x → Place (those p (suc i) n) x) → Place (those p i (suc n)) x
    go (yes q) rest = rw (those-yes p i n (ap p (sym q) ∙ e)) (record { place = 0; inside = omega arith; is = sym q })
    go (no q) rest =
        those-cases p i n (λ (t : List ℕ). Place t x)
        (λ _. let h = rest (omega arith) in record { place = suc h.place; inside = omega (arith, h.inside); is = h.is })
        (λ _. rest (omega arith))

-- tests that agree on the numbers list the same
pub those-ext : (p q : ℕ → Bool) (i n : ℕ) → ((x : ℕ) → i ≤ x → x < i + n → p x ≡ q x) → those p i n ≡ those q i n
unfolding those
those-ext p q i zero e = refl
those-ext p q i (suc n) e =
    ap (λ (b : Bool). pick b (i ∷ those p (suc i) n) (those p (suc i) n)) (e i (omega arith) (omega arith))
    ∙ ap (λ (l : List ℕ). pick (q i) (i ∷ l) l) (those-ext p q (suc i) n (λ x a b. e x (omega arith) (omega arith)))

-- one number more comes last
pub those-last : (p : ℕ → Bool) (i n : ℕ) → those p i (suc n) ≡ those p i n ++ pick (p (i + n)) ((i + n) ∷ []) []
unfolding those
those-last p i zero = ap (λ (k : ℕ). pick (p k) (k ∷ []) []) (sym (add-zero i))
those-last p i (suc n) = go (p i) (those-last p (suc i) n)
  where
    last : pick (p (suc i + n)) ((suc i + n) ∷ []) [] ≡ pick (p (i + suc n)) ((i + suc n) ∷ []) []
    last = ap (λ (k : ℕ). pick (p k) (k ∷ []) []) (suc-add i n ∙ sym (add-suc i n))

    go : (b : Bool) → those p (suc i) (suc n) ≡ those p (suc i) n ++ pick (p (suc i + n)) ((suc i + n) ∷ []) []
        → pick b (i ∷ those p (suc i) (suc n)) (those p (suc i) (suc n))
        ≡ pick b (i ∷ those p (suc i) n) (those p (suc i) n) ++ pick (p (i + suc n)) ((i + suc n) ∷ []) []
    go true h = ap (λ (l : List ℕ). i ∷ l) (h ∙ ap (λ (l : List ℕ). those p (suc i) n ++ l) last)
    go false h = h ∙ ap (λ (l : List ℕ). those p (suc i) n ++ l) last
