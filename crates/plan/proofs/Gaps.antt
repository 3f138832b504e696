-- The arithmetic of a plan: where the nominal slots lie, and the gaps between neighbours.
-- Assumes nothing.
use mathlib.Core.Path.{◌≡◌, sym, ap, ◌∙◌}
use mathlib.Core.Logic.{◌⊎◌, inl, inr}
use Prim.Native.Nat.{ℕ, zero, suc, ◌+◌, ◌-◌, ◌*◌, ◌/◌, ◌≤◌, ◌<◌}
use native.Mathlib.Nat.{div-le_self, div-mul-le_self, le-div_iff_mul-le, div-lt_iff_lt-mul, lt-div-mul-add, mul-div_cancel, mul-zero, zero-div, mod-eq_of_lt, mod-lt, mod_self}
use native.Mathlib.Numerals.{add-one}
use native.Mathlib.Decide.{ℕ_discrete}
use native.Mathlib.Omega.{arith}
use Rattle.limits.specs.Limits.{frame_slots, tenth}
use Rattle.plan.specs.declared.Plan.{Plan}
use Rattle.plan.specs.Plan.{InRange, along, nominal, half, first, floor_gap, ceil_gap, after, gap, gaps}

-- ---- quotients by one number r

module _ (r : ℕ) (pos : 0 < r) where
  div-sum : (a b c : ℕ) → a + b ≤ c → a / r + b / r ≤ c / r
  div-sum a b c l = (le-div_iff_mul-le pos).1 (omega (arith, div-mul-le_self a r, div-mul-le_self b r))

  div-rise : (a b c : ℕ) → c ≤ a + b → c / r ≤ a / r + (b + (r - 1)) / r
  div-rise a b c l =
      let e : c / r < suc (a / r + (b + (r - 1)) / r) = (div-lt_iff_lt-mul pos).1 (omega (arith, lt-div-mul-add {a = a} pos, lt-div-mul-add {a = b + (r - 1)} pos)) in
      omega arith

  div_ceil : (a : ℕ) → (a + (r - 1)) / r ≤ a / r + 1
  div_ceil a =
      let e : (a + (r - 1)) / r < suc (a / r + 1) = (div-lt_iff_lt-mul pos).1 (omega (arith, lt-div-mul-add {a = a} pos)) in
      omega arith

  div-tens : (a b : ℕ) → 10 * a ≤ b → 10 * (a / r) ≤ b / r
  div-tens a b l = (le-div_iff_mul-le pos).1 (omega (arith, div-mul-le_self a r))

-- ---- of every plan

module _ (p : Plan) where
  pub nominal-below : (k : ℕ) → nominal p k < frame_slots
  unfolding nominal
  nominal-below k = omega arith

  pub first_below : (k : ℕ) → first p k < frame_slots
  unfolding first
  first_below k = omega arith

  pub half-most : half p ≤ tenth
  unfolding half
  half-most = div-le_self tenth p.rate

-- ---- where the nominal slots lie

module _ (p : Plan) (good : InRange p) where
  pub along-zero : along p 0 ≡ 0
  unfolding along
  along-zero = simp (mul-zero, zero-div)

  along-rate : along p p.rate ≡ frame_slots
  unfolding along
  along-rate = mul-div_cancel frame_slots good.some

  pub along-apart : (k l : ℕ) → k < l → along p k + floor_gap p ≤ along p l
  unfolding along floor_gap
  along-apart k l m = div-sum p.rate good.some (frame_slots * k) frame_slots (frame_slots * l) (omega arith)

  pub along-near : (k : ℕ) → along p (k + 1) ≤ along p k + ceil_gap p
  unfolding along ceil_gap
  along-near k = div-rise p.rate good.some (frame_slots * k) frame_slots (frame_slots * (k + 1)) (omega arith)

  pub along-below : (k : ℕ) → k < p.rate → along p k + floor_gap p ≤ frame_slots
  along-below k m = omega (arith, along-apart k p.rate m, along-rate)

  pub along-most : (k : ℕ) → k < p.rate → along p k ≤ frame_slots
  along-most k m = omega (arith, along-below k m)

  pub along-last : (k : ℕ) → k + 1 ≡ p.rate → frame_slots ≤ along p k + ceil_gap p
  along-last k e = omega (arith, along-near k, ap (along p) e, along-rate)

  pub floor-ceil : ceil_gap p ≤ floor_gap p + 1
  unfolding ceil_gap floor_gap
  floor-ceil = div_ceil p.rate good.some frame_slots

  -- windows are a fifth of the way to the next nominal slot
  pub half-tenth : 10 * half p ≤ floor_gap p
  unfolding half floor_gap
  half-tenth = div-tens p.rate good.some tenth frame_slots (omega arith)

  pub half-least : 7 ≤ half p
  unfolding half
  half-least = (le-div_iff_mul-le good.some).1 (omega (arith, good.most))

  pub floor-most : floor_gap p ≤ frame_slots
  floor-most = omega (arith, along-below 0 good.some)

  pub after-inner : (k : ℕ) → k + 1 < p.rate → after p k ≡ k + 1
  unfolding after
  after-inner k l = mod-eq_of_lt l

  pub after_last : (k : ℕ) → k + 1 ≡ p.rate → after p k ≡ 0
  unfolding after
  after_last k e = rw e (mod_self p.rate)

  pub after-below : (k : ℕ) → after p k < p.rate
  unfolding after
  after-below k = mod-lt (k + 1) good.some

  -- ---- the gaps

  -- the end of the gap after k, counted from the start
  gap-along : (k : ℕ) → k < p.rate → gap p k + along p k ≡ along p (k + 1)
  unfolding gap nominal
  gap-along k l = go (ℕ_discrete (k + 1) p.rate)
    where
      go : Dec (k + 1 ≡ p.rate) → gap p k + along p k ≡ along p (k + 1)
      go (yes e) = rw (after_last k e, e, along-zero, along-rate) (omega (arith, along-below k l, half-tenth, half-least))
      go (no n) = rw (after-inner k (omega arith)) (omega (arith, along-apart k (k + 1) (omega arith), along-below (k + 1) (omega arith), half-tenth, half-least))

  -- the gaps between neighbouring nominal slots are floor(2250/r) or ceil(2250/r)
  pub gap-two : (k : ℕ) → k < p.rate → (gap p k ≡ floor_gap p) ⊎ (gap p k ≡ ceil_gap p)
  gap-two k l = go (ℕ_discrete (gap p k) (floor_gap p))
    where
      go : Dec (gap p k ≡ floor_gap p) → (gap p k ≡ floor_gap p) ⊎ (gap p k ≡ ceil_gap p)
      go (yes e) = inl e
      go (no n) = inr (omega (arith, gap-along k l, along-apart k (k + 1) (omega arith), along-near k, floor-ceil))

  gaps-along : (n : ℕ) → n ≤ p.rate → gaps p n ≡ along p n
  gaps-along zero l = sym along-zero
  gaps-along (suc n) l = omega (arith, gaps-along n (omega arith), gap-along n (omega arith), ap (along p) (add-one n))

  -- and the r of them sum to a frame
  pub gaps-sum : gaps p p.rate ≡ frame_slots
  gaps-sum = gaps-along p.rate (omega arith) ∙ along-rate
