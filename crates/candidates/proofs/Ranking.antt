-- The candidates by rank are those that the rounds find; and how many they are.
-- Assumes nothing.
use mathlib.Core.Path.{◌≡◌, refl, sym, ap, ◌∙◌}
use mathlib.Core.Bool.{Bool, true, false}
use Prim.Native.Nat.{ℕ, suc, ◌+◌, ◌-◌, ◌*◌, ◌≤◌, ◌<◌, min}
use native.Mathlib.Decide.{ℕ_discrete, dec_le, dec_lt}
use native.Mathlib.Omega.{arith}
use lib.Dec.{eqb, leb, ltb}
use borrow.Author.Tests.{eq-eqb, ne_eqb, lt-ltb, le-ltb, le-leb, lt-leb, leb-true}
use Rattle.laws.specs.Tests.{both, either}
use Rattle.laws.specs.Counting.{one}
use Rattle.laws.specs.Ranges.{how_many}
use Rattle.distance.specs.Distance.{top}
use Rattle.candidates.specs.Window.{is_free, is_available, free, available, ahead, outranks, rank, candidate}
use Rattle.candidates.specs.Rounds.{above_all, key_of, keys, cut_of, within, in_cut}
use Rattle.laws.proofs.Sums.{sums, sums-ext, sums-add, many-sums, one-true, one-false, one-both, one-ltb}
use Rattle.candidates.proofs.Cuts.{Cut, rounds, kept, left, kept-count, at_least, ge, ge-yes, ge-no, ge-zero}

-- available by the bounds, and not available outside them
pub avail-yes : (w : ℕ) → 0 < w → w < top → is_available w ≡ true
unfolding is_available
avail-yes w p l = simp (lt-ltb 0 w p, lt-ltb w top l)

pub avail-zero : (w : ℕ) → w ≡ 0 → is_available w ≡ false
unfolding is_available
avail-zero w e = simp (le-ltb 0 w (omega arith))

pub avail-big : (w : ℕ) → 0 < w → top ≤ w → is_available w ≡ false
unfolding is_available
avail-big w p l = simp (lt-ltb 0 w p, le-ltb w top l)

-- an available worth is between 0 and top
pub avail-bounds : (w : ℕ) → is_available w ≡ true → (0 < w) × (w < top)
unfolding is_available
avail-bounds w e =
    let h = sym (one-both (ltb 0 w) (ltb w top)) ∙ one-true e in
    let a = one-ltb 0 w in
    let b = one-ltb w top in
    (omega arith, omega arith)

-- an available slot is not free
avail-not-free : (w : ℕ) → is_available w ≡ true → is_free w ≡ false
unfolding is_free
avail-not-free w e = ne_eqb w top (λ q. omega (arith, (avail-bounds w e).1))

-- the keys of slots that are available, and that are not
pub key-avail : (w i : ℕ) → is_available w ≡ true → key_of w i ≡ w * 512 + (511 - i)
unfolding key_of
key-avail w i e = rw e

pub key-not : (w i : ℕ) → is_available w ≡ false → key_of w i ≡ 0
unfolding key_of
key-not w i e = rw e

pub key-some : (w i : ℕ) → is_available w ≡ true → 0 < key_of w i
key-some w i e = omega (arith, key-avail w i e, (avail-bounds w e).0)

-- no key reaches above_all
pub key-small : (w i : ℕ) → key_of w i < above_all
key-small w i = go (is_available w) refl
  where
    go : (b : Bool) → is_available w ≡ b → key_of w i < above_all
    go true e = omega (arith, key-avail w i e, (avail-bounds w e).1)
    go false e = omega (arith, key-not w i e)

-- no two slots have the same key
pub key_apart : (w v i j : ℕ) → i < 512 → j < 512 → 0 < key_of w i → key_of w i ≡ key_of v j → i ≡ j
key_apart w v i j a b p e = go (is_available w) (is_available v) refl refl
  where
    go : (b c : Bool) → is_available w ≡ b → is_available v ≡ c → i ≡ j
    go true true x y = let f = key-avail w i x in let g = key-avail v j y in omega arith
    go true false x y = absurd (omega (arith, key-not v j y))
    go false c x y = absurd (omega (arith, key-not w i x))

-- to outrank is to have a greater key
outranks-key : (ws : ℕ → ℕ) (i j : ℕ) → i < 512 → j < 512 → is_available (ws j) ≡ true → one (outranks ws j i) ≡ ge (keys ws i) (suc (keys ws j))
unfolding outranks ahead
outranks-key ws i j a b e = go (is_available w) refl
  where
    w : ℕ
    w = ws i

    v : ℕ
    v = ws j

    f : key_of v j ≡ v * 512 + (511 - j)
    f = key-avail v j e

    by : key_of w i ≡ w * 512 + (511 - i) → Dec (v < w) → Dec (w ≡ v) → Dec (i < j) → one (either (ltb v w) (both (eqb w v) (ltb i j))) ≡ ge (key_of w i) (suc (key_of v j))
    by g (yes x) y z = one-true (simp (lt-ltb v w x)) ∙ sym (ge-yes (key_of w i) (suc (key_of v j)) (omega (arith, f)) (omega (arith, f)))
    by g (no x) (yes y) (yes z) = one-true (simp (le-ltb v w (omega arith), eq-eqb w v y, lt-ltb i j z)) ∙ sym (ge-yes (key_of w i) (suc (key_of v j)) (omega (arith, f)) (omega (arith, f)))
    by g (no x) (yes y) (no z) = one-false (simp (le-ltb v w (omega arith), eq-eqb w v y, le-ltb i j (omega arith))) ∙ sym (ge-no (key_of w i) (suc (key_of v j)) (omega (arith, f)))
    by g (no x) (no y) z = one-false (simp (le-ltb v w (omega arith), ne_eqb w v y)) ∙ sym (ge-no (key_of w i) (suc (key_of v j)) (omega (arith, f)))

    go : (t : Bool) → is_available w ≡ t → one (both (is_available w) (either (ltb v w) (both (eqb w v) (ltb i j)))) ≡ ge (key_of w i) (suc (key_of v j))
    go true q = ap (λ t. one (both t (either (ltb v w) (both (eqb w v) (ltb i j))))) q ∙ by (key-avail w i q) (dec_lt v w) (ℕ_discrete w v) (dec_lt i j)
    go false q = ap (λ t. one (both t (either (ltb v w) (both (eqb w v) (ltb i j))))) q ∙ one-false refl ∙ sym (ge-zero (key_of w i) (suc (key_of v j)) (key-not w i q))

-- an available slot counts where its key reaches the cut
within-avail : (c w i : ℕ) → is_available w ≡ true → within c w i ≡ leb c (key_of w i)
unfolding within
within-avail c w i e = ap (λ t. either t (both (is_available w) (leb c (key_of w i)))) (avail-not-free w e) ∙ ap (λ t. both t (leb c (key_of w i))) e

-- each is free or has a key not below the cut, and not both
within-parts : (c w i : ℕ) → one (within c w i) ≡ one (is_free w) + ge (key_of w i) c
unfolding within
within-parts c w i = go (is_available w) refl
  where
    by : is_available w ≡ true → Dec (c ≤ key_of w i) → one (leb c (key_of w i)) ≡ ge (key_of w i) c
    by e (yes q) = one-true (le-leb c (key_of w i) q) ∙ sym (ge-yes (key_of w i) c q (key-some w i e))
    by e (no q) = one-false (lt-leb c (key_of w i) (omega arith)) ∙ sym (ge-no (key_of w i) c (omega arith))

    nothing : (b : Bool) → one (either b (both false (leb c (key_of w i)))) ≡ one b
    nothing true = refl
    nothing false = refl

    go : (b : Bool) → is_available w ≡ b → one (either (is_free w) (both (is_available w) (leb c (key_of w i)))) ≡ one (is_free w) + ge (key_of w i) c
    go true e = ap one (within-avail c w i e) ∙ omega (arith, by e (dec_le c (key_of w i)), one-false (avail-not-free w e))
    go false e = ap (λ t. one (either (is_free w) (both t (leb c (key_of w i))))) e ∙ omega (arith, nothing (is_free w), ge-zero (key_of w i) c (key-not w i e))

module _ (ws : ℕ → ℕ) (n : ℕ) (fits : n ≤ 512) where
  -- the rank is how many keys are greater
  rank-keys : (j : ℕ) → j < n → is_available (ws j) ≡ true → rank ws n j ≡ at_least (keys ws) n (suc (keys ws j))
  unfolding rank at_least
  rank-keys j l e =
      many-sums (outranks ws j) n
      ∙ sums-ext (λ i. one (outranks ws j i)) (λ i. ge (keys ws i) (suc (keys ws j))) n (λ i m. outranks-key ws i j (omega arith) (omega arith) e)

  apart : (i j : ℕ) → i < n → j < n → 0 < keys ws i → keys ws i ≡ keys ws j → i ≡ j
  apart i j a b p e = key_apart (ws i) (ws j) i j (omega arith) (omega arith) p e

  -- what the cut after k rounds keeps
  cut : (k : ℕ) → Cut (keys ws) n (cut_of (keys ws) n k) k
  cut k = rounds (keys ws) n apart (λ i m. key-small (ws i) i) k

  -- the candidates by rank are those not below the cut
  pub candidate-cut : (j : ℕ) → j < n → candidate ws n j ≡ in_cut ws (cut_of (keys ws) n (4 - free ws n)) j
  unfolding candidate within
  candidate-cut j l = go (is_available (ws j)) refl
    where
      k : ℕ
      k = 4 - free ws n

      c : ℕ
      c = cut_of (keys ws) n (4 - free ws n)

      by : is_available (ws j) ≡ true → Dec (c ≤ keys ws j) → ltb (rank ws n j) k ≡ leb c (keys ws j)
      by e (yes q) = lt-ltb (rank ws n j) k (rw (rank-keys j l e) (kept (keys ws) n apart c k (cut k) j l (key-some (ws j) j e) q)) ∙ sym (le-leb c (keys ws j) q)
      by e (no q) = le-ltb (rank ws n j) k (rw (rank-keys j l e) (left (keys ws) n apart c k (cut k) j l (key-some (ws j) j e) (omega arith))) ∙ sym (lt-leb c (keys ws j) (omega arith))

      go : (b : Bool) → is_available (ws j) ≡ b → either (is_free (ws j)) (both (is_available (ws j)) (ltb (rank ws n j) k)) ≡ either (is_free (ws j)) (both (is_available (ws j)) (leb c (keys ws j)))
      go true e = ap (λ t. either (is_free (ws j)) (both (is_available (ws j)) t)) (by e (dec_le c (keys ws j)))
      go false e = simp e

  -- with a candidate that is available, each available slot of a key not below its own is one
  pub greater-key : (i j : ℕ) → i < n → j < n → is_available (ws i) ≡ true → is_available (ws j) ≡ true → keys ws i ≤ keys ws j
      → candidate ws n i ≡ true → candidate ws n j ≡ true
  greater-key i j k l a b m e =
      let c = cut_of (keys ws) n (4 - free ws n) in
      let reaches : c ≤ keys ws i = leb-true c (keys ws i) (sym (candidate-cut i k ∙ within-avail c (ws i) i a) ∙ e) in
      candidate-cut j l ∙ within-avail c (ws j) j b ∙ le-leb c (keys ws j) (omega arith)

  -- the keys that are not 0 are those of the available slots
  all-available : at_least (keys ws) n 0 ≡ available ws n
  unfolding at_least available
  all-available =
      sums-ext (λ i. ge (keys ws i) 0) (λ i. one (is_available (ws i))) n (λ i m. by (ws i) i (is_available (ws i)) refl)
      ∙ sym (many-sums (λ i. is_available (ws i)) (n))
    where
      by : (w i : ℕ) (b : Bool) → is_available w ≡ b → ge (key_of w i) 0 ≡ one (is_available w)
      by w i true e = ge-yes (key_of w i) 0 (omega arith) (key-some w i e) ∙ sym (one-true e)
      by w i false e = ge-zero (key_of w i) 0 (key-not w i e) ∙ sym (one-false e)

  -- how many the cut c lets through
  count_cut : (c : ℕ) → how_many (in_cut ws c) n ≡ free ws n + at_least (keys ws) n c
  unfolding free at_least
  count_cut c =
      many-sums (in_cut ws c) n
      ∙ sums-ext (λ i. one (in_cut ws c i)) (λ i. one (is_free (ws i)) + ge (keys ws i) c) n (λ i m. within-parts c (ws i) i)
      ∙ sums-add (λ i. one (is_free (ws i))) (λ i. ge (keys ws i) c) n
      ∙ ap (λ x. x + sums (λ i. ge (keys ws i) c) (n)) (sym (many-sums (λ i. is_free (ws i)) (n)))

  -- how many candidates there are
  pub count-candidates : how_many (candidate ws n) n ≡ free ws n + min (4 - free ws n) (available ws n)
  count-candidates =
      many-sums (candidate ws n) n
      ∙ sums-ext (λ i. one (candidate ws n i)) (λ i. one (in_cut ws c i)) n (λ i m. ap one (candidate-cut i m))
      ∙ sym (many-sums (in_cut ws c) (n))
      ∙ count_cut c
      ∙ ap (λ x. free ws n + x) (kept-count (keys ws) n apart c (4 - free ws n) (cut (4 - free ws n)) ∙ ap (min (4 - free ws n)) all-available)
    where
      c : ℕ
      c = cut_of (keys ws) n (4 - free ws n)
