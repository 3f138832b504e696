-- The rounds: each takes the greatest key below the last one. After k rounds the keys at or above the cut are k, or all of them.
-- Assumes nothing.
use mathlib.Core.Path.{◌≡◌, refl, sym, ap, ◌∙◌}
use mathlib.Core.Logic.{◌⊎◌, inl, inr}
use Prim.Native.Nat.{ℕ, zero, suc, ◌+◌, ◌-◌, ◌≤◌, ◌<◌, min, max}
use native.Mathlib.Nat.{not-suc-le-zero}
use native.Mathlib.Decide.{ℕ_discrete, dec_lt}
use native.Mathlib.Omega.{arith}
use borrow.Author.Tests.{lt-ltb, le-ltb}
use Rattle.candidates.specs.Rounds.{above_all, below, cut_of, cap}
use Rattle.laws.proofs.Sums.{sums, sums-ext, sums-le, sums-add, sums-zero, sums-one, same, same-yes, same-no}

-- a key below c counts, another does not
pub cap-under : (c k : ℕ) → k < c → cap c k ≡ k
unfolding cap
cap-under c k l = rw (lt-ltb k c l)

pub cap-over : (c k : ℕ) → c ≤ k → cap c k ≡ 0
unfolding cap
cap-over c k l = rw (le-ltb k c l)

-- what counts is below c
cap-lt : (c k : ℕ) → 0 < c → cap c k < c
cap-lt c k p = go (dec_lt k c)
  where
    go : Dec (k < c) → cap c k < c
    go (yes l) = omega (arith, cap-under c k l)
    go (no l) = omega (arith, cap-over c k (omega arith))

module _ (f : ℕ → ℕ) (c : ℕ) where
  -- the greatest key below c is below c ..
  pub below-lt : (n : ℕ) → 0 < c → below f c n < c
  unfolding below
  below-lt zero p = omega arith
  below-lt (suc n) p = omega (arith, below-lt n p, cap-lt c (f n) p)

  -- .. 0 where nothing is below c ..
  pub below_none : (n : ℕ) → c ≡ 0 → below f c n ≡ 0
  unfolding below
  below_none zero p = refl
  below_none (suc n) p = omega (arith, below_none n p, cap-over c (f n) (omega arith))

  -- .. and no key below c is greater
  pub below-max : (n i : ℕ) → i < n → f i < c → f i ≤ below f c n
  unfolding below
  below-max zero i l p = absurd (not-suc-le-zero l)
  below-max (suc n) i l p = go (ℕ_discrete i n) (λ m. below-max n i m p)
    where
      go : Dec (i ≡ n) → (i < n → f i ≤ below f c n) → f i ≤ max (below f c n) (cap c (f n))
      go (yes e) rest = let q = ap f e in omega (arith, cap-under c (f n) (omega arith))
      go (no ne) rest = omega (arith, rest (omega arith))

  -- where it is not 0, it is the key of a slot
  pub record Found (n b : ℕ) : Type 0 where
    pub place : ℕ
    pub inside : place < n
    pub is : f place ≡ b

  pub below-found : (n : ℕ) → 0 < below f c n → Found n (below f c n)
  unfolding below
  below-found zero p = absurd (not-suc-le-zero p)
  below-found (suc n) p = go (dec_lt (f n) c) (dec_lt (below f c n) (cap c (f n))) (below-found n)
    where
      old : Found n (below f c n) → cap c (f n) ≤ below f c n → Found (suc n) (max (below f c n) (cap c (f n)))
      old h l = record { place = h.place; inside = omega arith; is = omega (arith, h.is) }

      go : Dec (f n < c) → Dec (below f c n < cap c (f n)) → (0 < below f c n → Found n (below f c n)) → Found (suc n) (max (below f c n) (cap c (f n)))
      go (yes l) (yes m) rest = record { place = n; inside = omega arith; is = omega (arith, cap-under c (f n) l) }
      go (yes l) (no m) rest = old (rest (omega arith)) (omega arith)
      go (no l) m rest = let z = cap-over c (f n) (omega arith) in old (rest (omega arith)) (omega arith)

-- 1 where k is at least x and not 0, else 0
unfoldable pub ge : ℕ → ℕ → ℕ
ge k x = min 1 (suc k - max 1 x)

-- by whether k reaches x
pub ge-yes : (k x : ℕ) → x ≤ k → 0 < k → ge k x ≡ 1
unfolding ge
ge-yes k x l p = omega arith

pub ge-no : (k x : ℕ) → k < x → ge k x ≡ 0
unfolding ge
ge-no k x l = omega arith

pub ge-zero : (k x : ℕ) → k ≡ 0 → ge k x ≡ 0
unfolding ge
ge-zero k x l = omega arith

-- fewer reach a higher x
ge-falls : (k x y : ℕ) → x ≤ y → ge k y ≤ ge k x
unfolding ge
ge-falls k x y l = omega arith

-- how many keys there are that are at least x, and not 0
unfoldable pub at_least : (ℕ → ℕ) → ℕ → ℕ → ℕ
at_least f n x = sums (λ i. ge (f i) x) n

module _ (f : ℕ → ℕ) (n : ℕ) where
  at_least-falls : (x y : ℕ) → x ≤ y → at_least f n y ≤ at_least f n x
  unfolding at_least
  at_least-falls x y l = sums-le (λ i. ge (f i) y) (λ i. ge (f i) x) n (λ i m. ge-falls (f i) x y l)

-- After k rounds: the cut is 0 and there are at most k keys, or there are k keys from the cut on.
abbrev pub Cut : (ℕ → ℕ) → ℕ → ℕ → ℕ → Type 0
Cut f n c k = ((c ≡ 0) × (at_least f n c ≤ k)) ⊎ ((0 < c) × (at_least f n c ≡ k))

module _ (f : ℕ → ℕ) (n : ℕ) (apart : (i j : ℕ) → i < n → j < n → 0 < f i → f i ≡ f j → i ≡ j) where
  -- one key more
  more : (c b : ℕ) → 0 < b → b < c → ((i : ℕ) → i < n → f i < c → f i ≤ b) → Found f c n b → at_least f n b ≡ at_least f n c + 1
  unfolding at_least
  more c b p l most at =
      sums-ext (λ i. ge (f i) b) (λ i. ge (f i) c + same (f i) b) n (λ i m. turn i m (dec_lt (f i) c))
      ∙ sums-add (λ i. ge (f i) c) (λ i. same (f i) b) n
      ∙ ap (λ x. sums (λ i. ge (f i) c) n + x)
      (sums-one (λ i. same (f i) b) n at.place at.inside (same-yes (f at.place) b at.is) (λ i m ne. other i m ne (ℕ_discrete (f i) b)))
    where
      at_cut : (x : ℕ) → Dec (x ≡ b) → x < c → x ≤ b → ge x b ≡ ge x c + same x b
      at_cut x (yes e) q r = omega (arith, ge-yes x b (omega arith) (omega arith), ge-no x c q, same-yes x b e)
      at_cut x (no e) q r = omega (arith, ge-no x b (omega arith), ge-no x c q, same-no x b e)

      turn : (i : ℕ) → i < n → Dec (f i < c) → ge (f i) b ≡ ge (f i) c + same (f i) b
      turn i m (yes q) = at_cut (f i) (ℕ_discrete (f i) b) q (most i m q)
      turn i m (no q) = omega (arith, ge-yes (f i) b (omega arith) (omega arith), ge-yes (f i) c (omega arith) (omega arith), same-no (f i) b (λ e. omega arith))

      other : (i : ℕ) → i < n → (i ≡ at.place → ⊥) → Dec (f i ≡ b) → same (f i) b ≡ 0
      other i m ne (yes e) = absurd (ne (apart i at.place m at.inside (omega arith) (omega (arith, at.is))))
      other i m ne (no e) = same-no (f i) b e

  -- no key more
  none : (c : ℕ) → 0 < c → ((i : ℕ) → i < n → f i < c → f i ≤ 0) → at_least f n 0 ≡ at_least f n c
  unfolding at_least
  none c p most =
      sums-ext (λ i. ge (f i) 0) (λ i. ge (f i) c) n (λ i m. turn i m (dec_lt (f i) c))
    where
      turn : (i : ℕ) → i < n → Dec (f i < c) → ge (f i) 0 ≡ ge (f i) c
      turn i m (yes q) = omega (arith, ge-zero (f i) 0 (omega (arith, most i m q)), ge-no (f i) c q)
      turn i m (no q) = omega (arith, ge-yes (f i) 0 (omega arith) (omega arith), ge-yes (f i) c (omega arith) (omega arith))

  round : (c k b : ℕ) → b ≡ below f c n → Cut f n c k → Cut f n b (suc k)
  round c k b e (inl (z, l)) =
      let q : b ≡ 0 = e ∙ below_none f c n z in
      inl (q, omega (arith, ap (at_least f n) (q ∙ sym z)))
  round c k b e (inr (p, l)) = go (ℕ_discrete b 0)
    where
      most : (i : ℕ) → i < n → f i < c → f i ≤ b
      most i m q = omega (arith, below-max f c n i m q)

      go : Dec (b ≡ 0) → Cut f n b (suc k)
      go (yes q) = inl (q, omega (arith, ap (at_least f n) q, none c p (λ i m r. omega (arith, most i m r))))
      go (no q) =
          inr (
            omega arith,
            more c b (omega arith) (omega (arith, below-lt f c n p)) most (rw e (below-found f c n (omega arith)))
                ∙ omega arith,
          )

  pub rounds : ((i : ℕ) → i < n → f i < above_all) → (k : ℕ) → Cut f n (cut_of f n k) k
  unfolding cut_of at_least
  rounds small zero = inr (omega arith, start)
    where
      start : at_least f n above_all ≡ 0
      start = sums-zero (λ i. ge (f i) above_all) n (λ i m. ge-no (f i) above_all (small i m))
  rounds small (suc k) = round (cut_of f n k) k (below f (cut_of f n k) n) refl (rounds small k)

  module _ (c k : ℕ) (cut : Cut f n c k) (j : ℕ) (inside : j < n) (some : 0 < f j) where
    -- a slot at or above the cut has fewer than k above it
    pub kept : c ≤ f j → at_least f n (suc (f j)) < k
    unfolding at_least
    kept l = go cut
      where
        turn : (i : ℕ) → Dec (i ≡ j) → ge (f i) (suc (f j)) + same i j ≤ ge (f i) (f j)
        turn i (yes e) = omega (arith, same-yes i j e, ge-yes (f i) (f j) (omega (arith, ap f e)) (omega (arith, ap f e)), ge-no (f i) (suc (f j)) (omega (arith, ap f e)))
        turn i (no ne) = omega (arith, same-no i j ne, ge-falls (f i) (f j) (suc (f j)) (omega arith))

        step : at_least f n (suc (f j)) + 1 ≤ at_least f n (f j)
        step =
            omega (
              arith,
              sums-one (λ i. same i j) n j inside (same-yes j j refl) (λ i m ne. same-no i j ne),
              sums-add (λ i. ge (f i) (suc (f j))) (λ i. same i j) n,
              sums-le (λ i. ge (f i) (suc (f j)) + same i j) (λ i. ge (f i) (f j)) n (λ i m. turn i (ℕ_discrete i j)),
            )

        go : Cut f n c k → at_least f n (suc (f j)) < k
        go (inl (z, m)) = omega (arith, step, at_least-falls f n c (f j) l)
        go (inr (z, m)) = omega (arith, step, at_least-falls f n c (f j) l)

    -- one below the cut has k or more above it
    pub left : f j < c → k ≤ at_least f n (suc (f j))
    left l = go cut
      where
        go : Cut f n c k → k ≤ at_least f n (suc (f j))
        go (inl (z, m)) = absurd (omega arith)
        go (inr (z, m)) = omega (arith, at_least-falls f n (suc (f j)) c l)

  -- how many are kept
  pub kept-count : (c k : ℕ) → Cut f n c k → at_least f n c ≡ min k (at_least f n 0)
  kept-count c k (inl (z, m)) = omega (arith, ap (at_least f n) z)
  kept-count c k (inr (z, m)) = omega (arith, at_least-falls f n 0 c (omega arith))
