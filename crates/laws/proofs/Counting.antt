-- Counting in a list: what a store does to a count, and that the counts of all numbers below n together are the length.
-- Assumes nothing.
use mathlib.Core.Path.{◌≡◌, refl, sym}
use mathlib.Core.List.{List, [], ◌∷◌, ◌++◌}
use Prim.Native.Nat.{ℕ, zero, suc, ◌+◌, ◌*◌, ◌≤◌, ◌<◌, zero-le}
use native.Mathlib.Nat.{not-suc-le-zero, le_of_suc-le-suc, suc-mul}
use native.Mathlib.Decide.{ℕ_discrete}
use native.Mathlib.Omega.{arith}
use lib.ListN.{length, get_or, set, replicate}
use borrow.Author.Tests.{eq-eqb, ne_eqb}
use Rattle.laws.specs.Counting.{one, hit, count, sum}
use Rattle.laws.proofs.Sums.{sums, sums-add, sums-zero, sums-one, sums-front}

pub hit_same : (h x : ℕ) → x ≡ h → hit h x ≡ 1
unfolding hit one
hit_same h x e = rw (eq-eqb _ _ e)

pub hit_other : (h x : ℕ) → (x ≡ h → ⊥) → hit h x ≡ 0
unfolding hit one
hit_other h x n = rw (ne_eqb _ _ n)

hit-le : (h x : ℕ) → hit h x ≤ 1
hit-le h x = go (ℕ_discrete x h)
  where
    go : Dec (x ≡ h) → hit h x ≤ 1
    go (yes e) = omega (arith, hit_same h x e)
    go (no n) = omega (arith, hit_other h x n)

-- what a store takes from the count and what it adds
pub count_set : (h : ℕ) (l : List ℕ) (at v : ℕ) → at < length l → count h (set l at v) + hit h (get_or l at 0) ≡ count h l + hit h v
count_set h [] at v p = absurd (not-suc-le-zero p)
count_set h (x ∷ l) zero v p = omega arith
count_set h (x ∷ l) (suc at) v p = omega (arith, count_set h l at v (le_of_suc-le-suc p))

pub count-le : (h : ℕ) (l : List ℕ) → count h l ≤ length l
count-le h [] = zero-le
count-le h (x ∷ l) = omega (arith, count-le h l, hit-le h x)

-- what stands at a place is counted
pub count_at : (h : ℕ) (l : List ℕ) (at : ℕ) → at < length l → hit h (get_or l at 0) ≤ count h l
count_at h [] at p = absurd (not-suc-le-zero p)
count_at h (x ∷ l) zero p = omega arith
count_at h (x ∷ l) (suc at) p = omega (arith, count_at h l at (le_of_suc-le-suc p))

pub count-replicate : (h n x : ℕ) → count h (replicate n x) ≡ n * hit h x
count-replicate h zero x = omega arith
count-replicate h (suc n) x = omega (arith, suc-mul n (hit h x), count-replicate h n x)

-- what stands nowhere is not counted
pub count_none : (h : ℕ) (l : List ℕ) → ((i : ℕ) → i < length l → get_or l i 0 ≡ h → ⊥) → count h l ≡ 0
count_none h [] n = refl
count_none h (x ∷ l) n = omega (arith, hit_other h x (n 0 (omega arith)), count_none h l (λ i p. n (suc i) (omega arith)))

pub sum-end : (t : List ℕ) (x : ℕ) → sum (t ++ x ∷ []) ≡ sum t + x
sum-end [] x = omega arith
sum-end (y ∷ t) x = omega (arith, sum-end t x)

-- ---- all numbers below n together

pub sum-sums : (t : List ℕ) (c : ℕ → ℕ) → ((h : ℕ) → h < length t → get_or t h 0 ≡ c h) → sum t ≡ sums c (length t)
sum-sums [] c p = sym (sums-zero c 0 (λ i l. absurd (not-suc-le-zero l)))
sum-sums (x ∷ t) c p =
    omega (arith, p 0 (omega arith), sum-sums t (λ h. c (suc h)) (λ h l. p (suc h) (omega arith)), sums-front c (length t))

pub sums-count : (n : ℕ) (l : List ℕ) → ((at : ℕ) → at < length l → get_or l at 0 < n) → sums (λ h. count h l) n ≡ length l
sums-count n [] p = sums-zero (λ h. 0) n (λ h l. refl)
sums-count n (x ∷ l) p =
    omega (arith, sums-add (λ h. hit h x) (λ h. count h l) n, sums-one (λ h. hit h x) n x (p 0 (omega arith)) (hit_same x x refl) (λ h m e. hit_other h x (λ q. e (sym q))), sums-count n l (λ at q. p (suc at) (omega arith)))
