-- The slots that are reused, by the keys alone: those that the cut keeps.
--     reused-is    one of the best, as many as are needed beside the free ones, is an available slot whose key reaches the cut
-- Assumes nothing.
use mathlib.Core.Path.{◌≡◌, refl, sym, ap, ◌∙◌}
use mathlib.Core.Bool.{Bool, true, false}
use Prim.Native.Nat.{ℕ, zero, suc, ◌+◌, ◌-◌, ◌%◌, ◌≤◌, ◌<◌}
use native.Mathlib.Nat.{add-zero, add-suc}
use native.Mathlib.Decide.{ℕ_discrete, dec_lt}
use native.Mathlib.Omega.{arith}
use lib.Dec.{eqb, leb, ltb}
use borrow.Author.Tests.{eq-eqb, lt-ltb, le-leb, lt-leb, ltb-true, eqb-true}
use Rattle.laws.specs.Tests.{both}
use Rattle.laws.proofs.Tests.{both_left, both_right, never as never-so}
use Rattle.candidates.specs.declared.rounds.Best.{Best}
use Rattle.candidates.specs.Window.{is_available}
use Rattle.candidates.specs.Rounds.{above_all, key_of, keys, below, cut_of, BestIn, cut_after}
use Rattle.candidates.proofs.Ranking.{key-avail, key-not, key-some, key-small}
use Rattle.candidates.proofs.Cuts.{below-lt, below_none, below-max, below-found, Found}
use Rattle.candidates.proofs.Four.{cut-is}
use Rattle.candidates.specs.Scanning.{key_hits, reused_by}
use Rattle.candidates.proofs.Keys.{over-3, hit-1, over-2, hit-2, over-1, hit-3, over-0, hit-4}

-- ---- a key ends in its slot

available : (w i : ℕ) → 0 < key_of w i → is_available w ≡ true
available w i p = go (is_available w) refl
  where
    go : (t : Bool) → is_available w ≡ t → is_available w ≡ true
    go true e = e
    go false e = absurd (omega (arith, key-not w i e))

key-slot : (w i : ℕ) → i < 512 → 0 < key_of w i → 511 - key_of w i % 512 ≡ i
key-slot w i l p = let e = key-avail w i (available w i p) in omega arith

hits-own : (w i : ℕ) → i < 512 → 0 < key_of w i → key_hits (key_of w i) i ≡ true
unfolding key_hits
hits-own w i l p = simp (lt-ltb 0 (key_of w i) p, eq-eqb (511 - key_of w i % 512) i (key-slot w i l p))

hits-is : (k i : ℕ) → key_hits k i ≡ true → (0 < k) × (511 - k % 512 ≡ i)
unfolding key_hits
hits-is k i e =
    (ltb-true 0 k (both_left (ltb 0 k) (eqb (511 - k % 512) i) e), eqb-true (511 - k % 512) i (both_right (ltb 0 k) (eqb (511 - k % 512) i) e))

-- ---- the cuts of a window

module _ (ws : ℕ → ℕ) (n : ℕ) (fits : n ≤ 512) where
  abbrev cut : ℕ → ℕ
  cut = cut_of (keys ws) n

  cut-start : cut_of (keys ws) n 0 ≡ above_all
  unfolding cut_of
  cut-start = refl

  cut-next : (k : ℕ) → cut_of (keys ws) n (suc k) ≡ below (keys ws) (cut_of (keys ws) n k) n
  unfolding cut_of
  cut-next k = refl

  falls : (k : ℕ) → cut (suc k) ≤ cut k
  falls k = go (ℕ_discrete (cut k) 0)
    where
      go : Dec (cut k ≡ 0) → cut (suc k) ≤ cut k
      go (yes z) = omega (arith, cut-next k, below_none (keys ws) (cut k) n z)
      go (no z) = omega (arith, cut-next k, below-lt (keys ws) (cut k) n (omega arith))

  falls-to : (k d : ℕ) → cut (k + d) ≤ cut k
  falls-to k zero = omega (arith, ap cut (add-zero k))
  falls-to k (suc d) = omega (arith, ap cut (add-suc k d), falls (k + d), falls-to k d)

  pub falls-far : (k m : ℕ) → k ≤ m → cut m ≤ cut k
  falls-far k m l = let e : m ≡ k + (m - k) = omega arith in omega (arith, ap cut e, falls-to k (m - k))

  module _ (j : ℕ) (inside : j < n) where
    -- the key of the slot j, 0 where it is not available
    abbrev key : ℕ
    key = keys ws j

    -- a key among the best hits only its own slot
    hit-yes : (k : ℕ) → key_hits (cut (suc k)) j ≡ true → (0 < key) × (key ≡ cut (suc k))
    hit-yes k e = by (hits-is (cut (suc k)) j e)
      where
        by : (0 < cut (suc k)) × (511 - cut (suc k) % 512 ≡ j) → (0 < key) × (key ≡ cut (suc k))
        by (p, q) = found (below-found (keys ws) (cut k) n (omega (arith, p, cut-next k)))
          where
            found : Found (keys ws) (cut k) n (below (keys ws) (cut k) n) → (0 < key) × (key ≡ cut (suc k))
            found f =
                let is : keys ws f.place ≡ cut (suc k) = f.is ∙ sym (cut-next k) in
                let s : f.place ≡ j = sym (key-slot (ws f.place) f.place (omega (arith, f.inside)) (omega (arith, is, p))) ∙ ap (λ (x : ℕ). 511 - x % 512) is ∙ q in
                let r : key ≡ cut (suc k) = ap (keys ws) (sym s) ∙ is in
                (omega (arith, r, p), r)

    hit-no : (k : ℕ) → key_hits (cut k) j ≡ false → 0 < key → key ≡ cut k → ⊥
    hit-no k e p r = never-so (sym e ∙ ap (λ (x : ℕ). key_hits x j) (sym r) ∙ hits-own (ws j) j (omega arith) p)

    -- where the first k keys miss it, its own is below them
    miss-start : 0 < key → key < cut 0
    miss-start p = omega (arith, key-small (ws j) j, cut-start)

    miss-next : (k : ℕ) → (0 < key → key < cut k) → key_hits (cut (suc k)) j ≡ false → 0 < key → key < cut (suc k)
    miss-next k m e p = go (dec_lt key (cut (suc k)))
      where
        go : Dec (key < cut (suc k)) → key < cut (suc k)
        go (yes l) = l
        go (no l) = absurd (hit-no (suc k) e p (omega (arith, cut-next k, below-max (keys ws) (cut k) n j inside (m p))))

    -- ---- the slot is kept, or not
    module _ (c : ℕ) where
      abbrev kept : Bool
      kept = both (is_available (ws j)) (leb c (key_of (ws j) j))

      kept-yes : 0 < key → c ≤ key → true ≡ kept
      kept-yes p l = sym (ap (λ (t : Bool). both t (leb c key)) (available (ws j) j p) ∙ le-leb c key l)

      kept-no : (0 < key → key < c) → false ≡ kept
      kept-no m = go (is_available (ws j)) refl
        where
          go : (t : Bool) → is_available (ws j) ≡ t → false ≡ kept
          go true e = sym (ap (λ (t : Bool). both t (leb c key)) e ∙ lt-leb c key (m (key-some (ws j) j e)))
          go false e = sym (ap (λ (t : Bool). both t (leb c key)) e)

    module _ (f : ℕ) (b : Best) (h : BestIn ws n b) where
      c-is : cut_after f b ≡ cut (4 - f)
      c-is = cut-is ws n f b h

      c-low : (k : ℕ) → k + f ≤ 4 → cut_after f b ≤ cut k
      c-low k l = omega (arith, c-is, falls-far k (4 - f) (omega arith))

      c-at : (k : ℕ) → 4 - f ≡ k → cut k ≡ cut_after f b
      c-at k e = ap cut (sym e) ∙ sym c-is

      abbrev good : Bool
      good = kept (cut_after f b)

      -- a key that hits is kept, and one below the cut is not
      keeps : (k : ℕ) → suc k + f ≤ 4 → key_hits (cut (suc k)) j ≡ true → true ≡ good
      keeps k l e = let y = hit-yes k e in kept-yes (cut_after f b) y.0 (omega (arith, y.1, c-low (suc k) l))

      loses : (k : ℕ) → 4 - f ≡ k → (0 < key → key < cut k) → false ≡ good
      loses k e m = kept-no (cut_after f b) (λ p. omega (arith, m p, c-at k e))

      at_key : (x k : ℕ) (t : Bool) → x ≡ cut k → key_hits x j ≡ t → key_hits (cut k) j ≡ t
      at_key x k t e q = ap (λ (y : ℕ). key_hits y j) (sym e) ∙ q

      pub reused-is : reused_by f b j ≡ both (is_available (ws j)) (leb (cut_after f b) (key_of (ws j) j))
      reused-is = first (dec_lt 3 f)
        where
          last : (l₃ : f ≤ 3) (h₁ : key_hits b.first j ≡ false) (l₂ : f ≤ 2) (h₂ : key_hits b.second j ≡ false) (l₁ : f ≤ 1)
              (h₃ : key_hits b.third j ≡ false) (m : 0 < key → key < cut 3) → Dec (0 < f) → (t : Bool) → key_hits b.fourth j ≡ t → reused_by f b j ≡ good
          last l₃ h₁ l₂ h₂ l₁ h₃ m (yes l) t e = sym (over-0 f b j l₃ h₁ l₂ h₂ l₁ h₃ l) ∙ loses 3 (omega arith) m
          last l₃ h₁ l₂ h₂ l₁ h₃ m (no l) true e =
              sym (hit-4 f b j l₃ h₁ l₂ h₂ l₁ h₃ (omega arith)) ∙ e ∙ keeps 3 (omega arith) (at_key b.fourth 4 true h.four e)
          last l₃ h₁ l₂ h₂ l₁ h₃ m (no l) false e =
              sym (hit-4 f b j l₃ h₁ l₂ h₂ l₁ h₃ (omega arith)) ∙ e ∙ loses 4 (omega arith) (miss-next 3 m (at_key b.fourth 4 false h.four e))

          third : (l₃ : f ≤ 3) (h₁ : key_hits b.first j ≡ false) (l₂ : f ≤ 2) (h₂ : key_hits b.second j ≡ false)
              (m : 0 < key → key < cut 2) → Dec (1 < f) → (t : Bool) → key_hits b.third j ≡ t → reused_by f b j ≡ good
          third l₃ h₁ l₂ h₂ m (yes l) t e = sym (over-1 f b j l₃ h₁ l₂ h₂ l) ∙ loses 2 (omega arith) m
          third l₃ h₁ l₂ h₂ m (no l) true e =
              sym (hit-3 f b j l₃ h₁ l₂ h₂ (omega arith) e) ∙ keeps 2 (omega arith) (at_key b.third 3 true h.three e)
          third l₃ h₁ l₂ h₂ m (no l) false e =
              last l₃ h₁ l₂ h₂ (omega arith) e (miss-next 2 m (at_key b.third 3 false h.three e)) (dec_lt 0 f) (key_hits b.fourth j) refl

          second : (l₃ : f ≤ 3) (h₁ : key_hits b.first j ≡ false) (m : 0 < key → key < cut 1) → Dec (2 < f) → (t : Bool)
              → key_hits b.second j ≡ t → reused_by f b j ≡ good
          second l₃ h₁ m (yes l) t e = sym (over-2 f b j l₃ h₁ l) ∙ loses 1 (omega arith) m
          second l₃ h₁ m (no l) true e = sym (hit-2 f b j l₃ h₁ (omega arith) e) ∙ keeps 1 (omega arith) (at_key b.second 2 true h.two e)
          second l₃ h₁ m (no l) false e =
              third l₃ h₁ (omega arith) e (miss-next 1 m (at_key b.second 2 false h.two e)) (dec_lt 1 f) (key_hits b.third j) refl

          at_first : f ≤ 3 → (t : Bool) → key_hits b.first j ≡ t → reused_by f b j ≡ good
          at_first l₃ true e = sym (hit-1 f b j l₃ e) ∙ keeps 0 (omega arith) (at_key b.first 1 true h.one e)
          at_first l₃ false e = second l₃ e (miss-next 0 miss-start (at_key b.first 1 false h.one e)) (dec_lt 2 f) (key_hits b.second j) refl

          first : Dec (3 < f) → reused_by f b j ≡ good
          first (yes l) = sym (over-3 f b j l) ∙ loses 0 (omega arith) miss-start
          first (no l) = at_first (omega arith) (key_hits b.first j) refl
