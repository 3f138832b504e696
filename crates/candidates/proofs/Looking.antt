-- What the look at a slot's holders comes to: above the slot's bound, the lowest level of all its times.
-- Assumes nothing.
use mathlib.Core.Path.{◌≡◌, refl, sym, ap, ◌∙◌}
use mathlib.Core.Bool.{Bool, true, false}
use mathlib.Core.List.{List}
use Prim.Native.Nat.{ℕ, zero, suc, ◌-◌, ◌≤◌, ◌<◌, min, max}
use native.Mathlib.Omega.{arith}
use lib.Dec.{eqb, leb, ltb}
use borrow.Author.Tests.{ltb-true, eqb-true, leb-true, leb-false}
use Rattle.laws.specs.Tests.{pick, either}
use Rattle.laws.specs.Ranges.{least}
use Rattle.laws.proofs.Tests.{both_left, both_right}
use Rattle.laws.proofs.Ranges.{least-le}
use Rattle.ship.specs.declared.Station.{Station}
use Rattle.walks.specs.Folded.{folded}
use Rattle.distance.specs.Distance.{top}
use Rattle.candidates.specs.declared.slot.Slot.{Slot}
use Rattle.candidates.specs.Scanning.{level_at, held_in, stays, holder_in}
use Rattle.candidates.proofs.Slots.{level-none}

-- a smaller number of the same values
pub least-same : (t : ℕ) (f g : ℕ → ℕ) (n : ℕ) → ((i : ℕ) → i < n → f i ≡ g i) → least t f n ≡ least t g n
unfolding least
least-same t f g zero e = refl
least-same t f g (suc n) e = omega (arith, least-same t f g n (λ i l. e i (omega arith)), e n (omega arith))

least-suc : (t : ℕ) (f : ℕ → ℕ) (n : ℕ) → least t f (suc n) ≡ min (least t f n) (f n)
unfolding least
least-suc t f n = refl

least_zero : (t : ℕ) (f : ℕ → ℕ) → least t f 0 ≡ t
unfolding least
least_zero t f = refl

module _ (reg : List Station) (slots : List ℕ) (x : Slot) where
  abbrev level : ℕ → ℕ
  level h = level_at reg h x

  -- the level of the holder of the time i
  abbrev pub level_in : ℕ → ℕ
  level_in i = level_at reg (held_in slots x i) x

  -- the lowest level that was met in n turns
  abbrev pub met : ℕ → ℕ
  met = folded top (holder_in slots x) (λ h. level_at reg h x) (λ low h l i. min low l)

  met-none : met 0 ≡ top
  unfolding folded
  met-none = refl

  met-more : (n : ℕ) → met (suc n) ≡ min (met n) (level (holder_in slots x (met n) n))
  unfolding folded
  met-more n = refl

  nobody : level 0 ≡ top
  unfolding level_at
  nobody = sym (level-none 0 _ x refl)

  -- nobody is looked at, or the holder is
  passed-by : (low n : ℕ) → either (leb low x.bound) (stays slots x n) ≡ true → level (holder_in slots x low n) ≡ top
  unfolding holder_in
  passed-by low n e = ap (λ (t : Bool). level (pick t 0 (held_in slots x n))) e ∙ nobody

  looked-at : (low n : ℕ) → either (leb low x.bound) (stays slots x n) ≡ false → level (holder_in slots x low n) ≡ level_in n
  unfolding holder_in
  looked-at low n e = ap (λ (t : Bool). level (pick t 0 (held_in slots x n))) e

  -- the holder of the frame before has been counted
  stays_after : (n : ℕ) → stays slots x n ≡ true → (0 < n) × (held_in slots x n ≡ held_in slots x (n - 1))
  unfolding stays
  stays_after n e = (
    ltb-true 0 n (both_left (ltb 0 n) (eqb (held_in slots x n) (held_in slots x (n - 1))) e),
    eqb-true (held_in slots x n) (held_in slots x (n - 1)) (both_right (ltb 0 n) (eqb (held_in slots x n) (held_in slots x (n - 1))) e),
  )

  counted : (n : ℕ) → stays slots x n ≡ true → least top level_in n ≤ level_in n
  counted zero e = absurd (omega (arith, (stays_after 0 e).0))
  counted (suc k) e = let z : suc k - 1 ≡ k = omega arith in omega (arith, least-suc top level_in k, ap level (stays_after (suc k) e).1, ap level_in z)

  pub met-low : (n : ℕ) → max x.bound (met n) ≡ max x.bound (least top level_in n)
  met-low zero = omega (arith, met-none, least_zero top level_in)
  met-low (suc n) = go (met-low n) (leb (met n) x.bound) refl (stays slots x n) refl
    where
      facts : (met (suc n) ≡ min (met n) (level (holder_in slots x (met n) n))) × (least top level_in (suc n) ≡ min (least top level_in n) (level_in n))
      facts = (met-more n, least-suc top level_in n)

      go : max x.bound (met n) ≡ max x.bound (least top level_in n) → (a : Bool) → leb (met n) x.bound ≡ a → (b : Bool) → stays slots x n ≡ b
          → max x.bound (met (suc n)) ≡ max x.bound (least top level_in (suc n))
      go h true p b q = omega (arith, facts.0, facts.1, leb-true (met n) x.bound p)
      go h false p true q =
          omega (
            arith,
            facts.0,
            facts.1,
            leb-false (met n) x.bound p,
            least-le top level_in n,
            counted n q,
            passed-by (met n) n (ap (λ (t : Bool). either t (stays slots x n)) p ∙ q),
          )
      go h false p false q =
          omega (arith, facts.0, facts.1, looked-at (met n) n (ap (λ (t : Bool). either t (stays slots x n)) p ∙ q))
