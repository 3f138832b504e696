-- The four greatest keys in one pass: what one key more does to the cuts after 1, 2, 3 and 4 rounds.
-- Assumes nothing.
use mathlib.Core.Path.{◌≡◌, refl, sym, ap, subst, ◌∙◌}
use Prim.Native.Nat.{ℕ, zero, suc, ◌+◌, ◌-◌, ◌≤◌, ◌<◌, min, max}
use native.Mathlib.Decide.{ℕ_discrete, dec_lt}
use native.Mathlib.Omega.{arith}
use lib.Dec.{eqb, ltb}
use borrow.Author.Tests.{eq-eqb, ne_eqb, lt-ltb, le-ltb}
use native.Mathlib.Numerals.{add-one}
use Rattle.laws.specs.Tests.{pick}
use Rattle.candidates.specs.declared.rounds.Best.{Best}
use Rattle.candidates.specs.Rounds.{above_all, key_of, keys, cap, below, cut_of, better_of, BestIn, cut_after}
use Rattle.candidates.specs.Scanning.{none_yet}
use Rattle.candidates.proofs.Ranking.{key-small, key_apart}
use Rattle.candidates.proofs.Cuts.{cap-under, cap-over, below-lt, below_none, below-max, below-found}

module _ (f : ℕ → ℕ) where
  -- the greatest key below b is still the greatest below anything between it and b
  between : (n b c x : ℕ) → c ≡ below f b n → c < x → x ≤ b → below f x n ≡ c
  between n b c x e l h = omega (arith, least (ℕ_discrete (below f x n) 0), most (ℕ_discrete c 0))
    where
      least : Dec (below f x n ≡ 0) → below f x n ≤ c
      least (yes z) = omega arith
      least (no z) =
          let q = below-found f x n (omega arith) in
          omega (arith, q.is, below-max f b n q.place q.inside (omega (arith, q.is, below-lt f x n (omega arith))))

      most : Dec (c ≡ 0) → c ≤ below f x n
      most (yes z) = omega arith
      most (no z) =
          let q = below-found f b n (omega arith) in
          omega (arith, q.is, below-max f x n q.place q.inside (omega (arith, q.is)))

  below-le : (c n : ℕ) → below f c n ≤ c
  below-le c n = go (ℕ_discrete c 0)
    where
      go : Dec (c ≡ 0) → below f c n ≤ c
      go (yes z) = omega (arith, below_none f c n z)
      go (no z) = omega (arith, below-lt f c n (omega arith))

  -- no two of the keys up to n are the same, but for 0
  module _ (n : ℕ) (apart : (i : ℕ) → i < n → 0 < f i → f i ≡ f n → ⊥) where
    -- what the new key does to the next cut d, by what it did to the cut c, which came after b
    step : (b c d c' : ℕ) → c ≡ below f b n → d ≡ below f c n → c' ≡ max c (min b (f n))
        → max (below f c' n) (cap c' (f n)) ≡ max d (min c (f n))
    step b c d c' is_c is-d e = go (dec_lt x c) (dec_lt c x) (dec_lt x b) (ℕ_discrete c 0)
      where
        x : ℕ
        x = f n

        by : (y : ℕ) → c' ≡ y → max (below f y n) (cap y x) ≡ max d (min c x) → max (below f c' n) (cap c' x) ≡ max d (min c x)
        by y q h = ap (λ (z : ℕ). max (below f z n) (cap z x)) q ∙ h

        under : c ≤ b
        under = omega (arith, below-le b n)

        go : Dec (x < c) → Dec (c < x) → Dec (x < b) → Dec (c ≡ 0) → max (below f c' n) (cap c' x) ≡ max d (min c x)
        go (yes p) q r z = by c (omega (arith, under)) (omega (arith, cap-under c x p))
        go (no p) (yes q) (yes r) z = by x (omega arith) (omega (arith, between n b c x is_c q (omega arith), cap-over x x (omega arith), below-le c n))
        go (no p) (yes q) (no r) z = by b (omega (arith, under)) (omega (arith, cap-over b x (omega arith), below-le c n))
        go (no p) (no q) r (yes z) = by 0 (omega arith) (omega (arith, below_none f 0 n refl, below_none f c n z, cap-over 0 x (omega arith)))
        go (no p) (no q) r (no z) =
            let h = below-found f b n (omega arith) in
            absurd (apart h.place h.inside (omega (arith, h.is)) (omega (arith, h.is)))

    -- the cut after one round more is the greater of what it was and what the new key pushes down
    pub pushed : f n < above_all → (k : ℕ) → cut_of f (suc n) (suc k) ≡ max (cut_of f n (suc k)) (min (cut_of f n k) (f n))
    unfolding cut_of below
    pushed small zero = omega (arith, cap-under above_all (f n) small)
    pushed small (suc k) = step (cut_of f n k) (below f (cut_of f n k) n) (below f (below f (cut_of f n k) n) n) (cut_of f (suc n) (suc k)) refl refl (pushed small k)

-- no round: above every key
none : (f : ℕ → ℕ) (n : ℕ) → cut_of f n 0 ≡ above_all
unfolding cut_of
none f n = refl

-- ---- the best of the first slots of a window

-- no key before the first slot
cut-none : (f : ℕ → ℕ) (k : ℕ) → 0 ≡ cut_of f 0 (suc k)
unfolding cut_of below
cut-none f k = refl

pub best_none : (ws : ℕ → ℕ) → BestIn ws 0 none_yet
unfolding none_yet
best_none ws =
    record { one = cut-none (keys ws) 0; two = cut-none (keys ws) 1; three = cut-none (keys ws) 2; four = cut-none (keys ws) 3 }

-- one slot more
module _ (ws : ℕ → ℕ) (i : ℕ) (b : Best) (inside : i < 512) (h : BestIn ws i b) where
  -- the cut after k + 1 rounds
  next : (k : ℕ) → cut_of (keys ws) (i + 1) (suc k) ≡ max (cut_of (keys ws) i (suc k)) (min (cut_of (keys ws) i k) (keys ws i))
  next k =
      ap (λ (n : ℕ). cut_of (keys ws) n (suc k)) (add-one i)
      ∙ pushed (keys ws) i (λ j l p e. different j l (key_apart (ws j) (ws i) j i (omega arith) inside p e)) (key-small (ws i) i) k
    where
      different : (j : ℕ) → j < i → j ≡ i → ⊥
      different j l e = omega arith

  best-more : BestIn ws (i + 1) (better_of b (ws i) i)
  unfolding better_of
  best-more =
      record {
        one = omega (arith, h.one, next 0, none (keys ws) i, key-small (ws i) i);
        two = omega (arith, h.one, h.two, next 1);
        three = omega (arith, h.two, h.three, next 2);
        four = omega (arith, h.three, h.four, next 3);
      }

  -- as the code has it: the worth and the best that the callees gave
  pub best-next : (w : ℕ) (r : Best) → w ≡ ws i → r ≡ better_of b w i → BestIn ws (i + 1) r
  best-next w r e q = subst (BestIn ws (i + 1)) (sym (q ∙ ap (λ (x : ℕ). better_of b x i) e)) best-more

-- a slot without a key leaves the keys
pub better-none : (b : Best) (w i : ℕ) → key_of w i ≡ 0 → b ≡ better_of b w i
unfolding better_of
better-none b w i z =
    λ j. record { first = same b.first j; second = keep b.second b.first j; third = keep b.third b.second j; fourth = keep b.fourth b.third j }
  where
    same : (x : ℕ) → x ≡ max x (key_of w i)
    same x = omega (arith, z)

    keep : (x y : ℕ) → x ≡ max x (min y (key_of w i))
    keep x y = omega (arith, z)

-- so does one whose key is not above the fourth
pub better-low : (ws : ℕ → ℕ) (n : ℕ) (b : Best) → BestIn ws n b → (w i : ℕ) → key_of w i ≤ b.fourth → b ≡ better_of b w i
unfolding better_of cut_of
better-low ws n b h w i l =
    λ j. record {
      first = same j;
      second = keep b.second b.first (omega (arith, in_order.0, in_order.1, in_order.2)) j;
      third = keep b.third b.second (omega (arith, in_order.1, in_order.2)) j;
      fourth = keep b.fourth b.third l j;
    }
  where
    cut : ℕ → ℕ
    cut = cut_of (keys ws) n

    falls : (k : ℕ) → cut (suc k) ≤ cut k
    falls k = below-le (keys ws) (cut k) n

    in_order : (b.second ≤ b.first) × (b.third ≤ b.second) × (b.fourth ≤ b.third)
    in_order =
        (omega (arith, h.one, h.two, falls 1), omega (arith, h.two, h.three, falls 2), omega (arith, h.three, h.four, falls 3))

    same : b.first ≡ max b.first (key_of w i)
    same = omega (arith, l, in_order.0, in_order.1, in_order.2)

    keep : (x y : ℕ) → key_of w i ≤ x → x ≡ max x (min y (key_of w i))
    keep x y m = omega (arith, m)

-- the cut is that after as many rounds as slots are needed beside f free ones
pub cut-is : (ws : ℕ → ℕ) (n f : ℕ) (b : Best) → BestIn ws n b → cut_after f b ≡ cut_of (keys ws) n (4 - f)
unfolding cut_after
cut-is ws n f b h = go (dec_lt 3 f) (ℕ_discrete f 3) (ℕ_discrete f 2) (ℕ_discrete f 1)
  where
    by : (x k : ℕ) → x ≡ cut_of (keys ws) n k → k ≡ 4 - f → x ≡ cut_of (keys ws) n (4 - f)
    by x k e q = e ∙ ap (cut_of (keys ws) n) q

    go : Dec (3 < f) → Dec (f ≡ 3) → Dec (f ≡ 2) → Dec (f ≡ 1)
        → pick (ltb 3 f) above_all (pick (eqb f 3) b.first (pick (eqb f 2) b.second (pick (eqb f 1) b.third b.fourth))) ≡ cut_of (keys ws) n (4 - f)
    go (yes p) q r t = simp (lt-ltb 3 f p) (by above_all 0 (sym (none (keys ws) n)) (omega arith))
    go (no p) (yes q) r t = simp (le-ltb 3 f (omega arith), eq-eqb f 3 q) (by b.first 1 h.one (omega arith))
    go (no p) (no q) (yes r) t = simp (le-ltb 3 f (omega arith), ne_eqb f 3 q, eq-eqb f 2 r) (by b.second 2 h.two (omega arith))
    go (no p) (no q) (no r) (yes t) = simp (le-ltb 3 f (omega arith), ne_eqb f 3 q, ne_eqb f 2 r, eq-eqb f 1 t) (by b.third 3 h.three (omega arith))
    go (no p) (no q) (no r) (no t) = simp (le-ltb 3 f (omega arith), ne_eqb f 3 q, ne_eqb f 2 r, ne_eqb f 1 t) (by b.fourth 4 h.four (omega arith))
