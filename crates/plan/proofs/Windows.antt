-- Windows in slot numbers, by their comings in slot times.
-- Assumes nothing.
use Rattle.std.specs.Prelude.{Option, Some, None, MatchOption}
use mathlib.Core.Path.{◌≡◌}
use Prim.Native.Nat.{ℕ, ◌+◌, ◌-◌, ◌%◌, ◌≤◌, ◌<◌}
use native.Mathlib.Omega.{arith}
use Rattle.limits.specs.Limits.{frame_slots}
use Rattle.plan.specs.declared.Plan.{Plan}
use Rattle.plan.specs.Plan.{InRange, nominal, half, slots, first, since, InWindow, Tells}
use Rattle.plan.specs.Times.{Comes, Within}
use Rattle.plan.proofs.Gaps.{nominal-below, first_below, half-most}
use Rattle.plan.proofs.Comings.{no-overlap, one-window}

module _ (p : Plan) (k : ℕ) where
  pub middle : (first p k + half p) % frame_slots ≡ nominal p k
  unfolding first
  middle = omega (arith, nominal-below p k, half-most p)

  -- so many slots since the first one, where fewer than a frame have passed
  since-first : (f t : ℕ) → f % frame_slots ≡ first p k → f ≤ t → t < f + frame_slots → f + since (first p k) (t % frame_slots) ≡ t
  since-first f t e l m = omega arith

  pub slot-within : (t f : ℕ) → Comes p k f → Within p f t → InWindow p k (t % frame_slots)
  unfolding slots
  slot-within t f c w =
      record { known = c.known; near = omega (arith, since-first f t c.starts w.from (omega (arith, w.to, half-most p)), w.to) }

  pub slot-comes : (t : ℕ) → InWindow p k (t % frame_slots) → since (first p k) (t % frame_slots) ≤ t → Comes p k (t - since (first p k) (t % frame_slots))
  slot-comes t w l = record { known = w.known; starts = omega (arith, first_below p k) }

  pub slot-inside : (t : ℕ) → InWindow p k (t % frame_slots) → Within p (t - since (first p k) (t % frame_slots)) t
  unfolding slots
  slot-inside t w = record { from = omega arith; to = omega (arith, w.near) }

-- a slot number is met a frame later, when a window that it lies in has started
pub one-slot : (p : Plan) → InRange p → (k l n : ℕ) → n < frame_slots → InWindow p k n → InWindow p l n → k ≡ l
one-slot p good k l n b v w =
    let e : n ≡ (n + frame_slots) % frame_slots = omega arith in
    same-time (n + frame_slots) (omega arith) (rw e at v) (rw e at w)
  where
    same-time : (t : ℕ) → frame_slots ≤ t → InWindow p k (t % frame_slots) → InWindow p l (t % frame_slots) → k ≡ l
    same-time t m v w =
        let f = t - since (first p k) (t % frame_slots) in
        let g = t - since (first p l) (t % frame_slots) in
        let c : Comes p k f = slot-comes p k t v (omega arith) in
        let d : Comes p l g = slot-comes p l t w (omega arith) in
        let e : f ≡ g = no-overlap p good k l f g t c d (slot-inside p k t v) (slot-inside p l t w) in
        one-window p good k l g (rw e at c) d

-- what a search through the windows finds is told so
pub told : (p : Plan) (n : ℕ) (r : Option ℕ)
    → MatchOption r ((k : ℕ) → 0 ≤ k → k < p.rate → InWindow p k n → ⊥) (λ k. (0 ≤ k) × (k < p.rate) × InWindow p k n × ((j : ℕ) → 0 ≤ j → j < k → InWindow p j n → ⊥))
    → Tells p n r
told p n None none = λ k w. none k (omega arith) w.known w
told p n (Some k) one = one.2
