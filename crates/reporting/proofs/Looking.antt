-- What a report looks up: frames in a row, and the first own time from a distance on.
-- Assumes nothing.
use Rattle.std.specs.Prelude.{Option, Some, None, MatchOption, unwrap_or}
use mathlib.Core.Path.{◌≡◌, refl, sym, ap, ◌∙◌}
use mathlib.Core.Bool.{Bool, true, false}
use mathlib.Core.List.{List}
use Prim.Native.Nat.{ℕ, zero, suc, ◌+◌, ◌*◌, ◌≤◌, ◌<◌}
use native.Mathlib.Numerals.{add-one}
use native.Mathlib.Decide.{ℕ_discrete}
use native.Mathlib.Omega.{arith}
use Rattle.limits.specs.Limits.{frame_slots, most_time_out}
use Rattle.reporting.specs.Report.{own_at, in_a_row, time_out, first_own}

-- ---- frames in a row

module _ (p : ℕ → Bool) (i n : ℕ) where
  -- the first one passes, or it does not
  row_more : p i ≡ true → in_a_row p i (suc n) ≡ suc (in_a_row p (i + 1) n)
  row_more e = rw (e, add-one i)

  row-stops : p i ≡ false → in_a_row p i (suc n) ≡ 0
  row-stops e = rw e

-- no more than are looked at
row-most : (p : ℕ → Bool) (i n : ℕ) → in_a_row p i n ≤ n
row-most p i zero = omega arith
row-most p i (suc n) = go (p i) refl (row-most p (i + 1) n)
  where
    go : (b : Bool) → p i ≡ b → in_a_row p (i + 1) n ≤ n → in_a_row p i (suc n) ≤ suc n
    go true e h = omega (arith, row_more p i n e)
    go false e h = omega (arith, row-stops p i n e)

-- those in a row pass
pub row-passes : (p : ℕ → Bool) (i n j : ℕ) → i ≤ j → j < i + in_a_row p i n → p j ≡ true
row-passes p i zero j l m = absurd (omega arith)
row-passes p i (suc n) j l m = go (p i) refl (ℕ_discrete j i) (row-passes p (i + 1) n j)
  where
    go : (b : Bool) → p i ≡ b → Dec (j ≡ i) → (i + 1 ≤ j → j < i + 1 + in_a_row p (i + 1) n → p j ≡ true) → p j ≡ true
    go true e (yes d) h = ap p d ∙ e
    go true e (no d) h = h (omega (arith, d)) (omega (arith, m, row_more p i n e))
    go false e d h = absurd (omega (arith, m, row-stops p i n e))

-- and the next one does not, where it is not past the n of them
pub row_ends : (p : ℕ → Bool) (i n : ℕ) → in_a_row p i n < n → p (i + in_a_row p i n) ≡ false
row_ends p i zero l = absurd (omega arith)
row_ends p i (suc n) l = go (p i) refl (row_ends p (i + 1) n)
  where
    go : (b : Bool) → p i ≡ b → (in_a_row p (i + 1) n < n → p (i + 1 + in_a_row p (i + 1) n) ≡ false) → p (i + in_a_row p i (suc n)) ≡ false
    go true e h =
        let f : i + in_a_row p i (suc n) ≡ i + 1 + in_a_row p (i + 1) n = omega (arith, row_more p i n e) in
        ap p f ∙ h (omega (arith, l, row_more p i n e))
    go false e h =
        let f : i + in_a_row p i (suc n) ≡ i = omega (arith, row-stops p i n e) in
        ap p f ∙ e

module _ (slots : List ℕ) (present : ℕ) where
  -- the present slot, i frames ahead
  abbrev pub frame_own : ℕ → Bool
  frame_own i = own_at slots present (frame_slots * i)

  -- a time-out is 0 to 7
  pub time-out-most : time_out slots present ≤ most_time_out
  unfolding time_out
  time-out-most = row-most frame_own 1 most_time_out

-- ---- what a search through frames or times finds

module _ (p : ℕ → Bool) where
  -- all of them pass
  all-in-row : (i n : ℕ) → ((k : ℕ) → k < n → p (k + i) ≡ true) → n ≡ in_a_row p i n
  all-in-row i zero all = refl
  all-in-row i (suc n) all =
      let here : p i ≡ true = ap p (omega arith) ∙ all 0 (omega arith) in
      rw here (ap suc (all-in-row (suc i) n (λ k l. ap p (omega arith) ∙ all (suc k) (omega arith))))

  -- the first that does not is found
  row-until : (i n m : ℕ) → m < n → p (m + i) ≡ false → ((k : ℕ) → k < m → p (k + i) ≡ true) → m ≡ in_a_row p i n
  row-until i zero m l e all = absurd (omega arith)
  row-until i (suc n) zero l e all =
      let here : p i ≡ false = ap p (omega arith) ∙ e in
      rw here refl
  row-until i (suc n) (suc m) l e all =
      let here : p i ≡ true = ap p (omega arith) ∙ all 0 (omega arith) in
      rw here (ap suc (row-until (suc i) n m (omega arith) (ap p (omega arith) ∙ e) (λ k l. ap p (omega arith) ∙ all (suc k) (omega arith))))

  pub row-is : (i n : ℕ) (r : Option ℕ)
      → MatchOption r ((k : ℕ) → 0 ≤ k → k < n → p (k + i) ≡ true) (λ m. (0 ≤ m) × (m < n) × (p (m + i) ≡ false) × ((k : ℕ) → 0 ≤ k → k < m → p (k + i) ≡ true))
      → unwrap_or r n ≡ in_a_row p i n
  row-is i n None all = all-in-row i n (λ k l. all k (omega arith) l)
  row-is i n (Some m) one = row-until i n m one.1 one.2 (λ k l. one.3 k (omega arith) l)

-- the first of the n times from d ahead on, or none
pub first-is : (slots : List ℕ) (present d n : ℕ) (r : Option ℕ)
    → MatchOption r ((k : ℕ) → d ≤ k → k < d + n → own_at slots present k ≡ false)
    (λ m. (d ≤ m) × (m < d + n) × (own_at slots present m ≡ true) × ((k : ℕ) → d ≤ k → k < m → own_at slots present k ≡ false))
    → unwrap_or r 0 ≡ first_own slots present d n
first-is slots present d zero None none = refl
first-is slots present d (suc n) None none =
    rw (none d (omega arith) (omega arith)) (first-is slots present (suc d) n None (λ k l m. none k (omega arith) (omega arith)))
first-is slots present d zero (Some m) one = absurd (omega (arith, one.0, one.1))
first-is slots present d (suc n) (Some m) one =
    go (ℕ_discrete m d) (λ low. first-is slots present (suc d) n (Some m) (low, omega (arith, one.1), one.2, λ k l h. one.3 k (omega arith) h))
  where
    go : Dec (m ≡ d) → (d < m → m ≡ first_own slots present (suc d) n) → m ≡ first_own slots present d (suc n)
    go (yes e) later = let here : own_at slots present d ≡ true = ap (own_at slots present) (sym e) ∙ one.2 in rw here e
    go (no o) later = let low : d < m = omega (arith, one.0, o) in rw (one.3 d (omega arith) low) (later low)
