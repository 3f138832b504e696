-- The offset of a report: the first own time of a stretch, and the one window that now lies in.
-- Assumes nothing.
use mathlib.Core.Path.{◌≡◌, refl, sym, ap, ◌∙◌}
use mathlib.Core.Bool.{Bool, true, false}
use mathlib.Core.List.{List}
use Prim.Native.Nat.{ℕ, zero, suc, ◌+◌, ◌-◌, ◌%◌, ◌≤◌, ◌<◌}
use native.Mathlib.Decide.{ℕ_discrete}
use native.Mathlib.Omega.{arith}
use borrow.Author.Tests.{lt-ltb, ltb-true}
use Rattle.laws.proofs.Tests.{not-true, pick-has}
use Rattle.limits.specs.Limits.{frame_slots, widest}
use Rattle.plan.specs.declared.Plan.{Plan}
use Rattle.plan.specs.Plan.{InRange, InWindow, slots as window_slots, first, since}
use Rattle.plan.proofs.Gaps.{half-most}
use Rattle.plan.proofs.Promised.{no-slot-in-two}
use Rattle.reporting.specs.Report.{own_at, first_own, lies_in, offset_in, offset_below, offset_of}

-- a window has at most 451 slots
pub slots-most : (p : Plan) → window_slots p ≤ widest
unfolding window_slots
slots-most p = omega (arith, half-most p)

-- ---- the window that now lies in

module _ (slots : List ℕ) (present : ℕ) (p : Plan) where
  -- now lies in the window of k, as the test says it
  abbrev Here : ℕ → Type 0
  Here k = lies_in p k (present % frame_slots) ≡ true

  -- what the test says of a window that now lies in
  here-is : (k : ℕ) → InWindow p k (present % frame_slots) → Here k
  unfolding lies_in
  here-is k w = lt-ltb (since (first p k) (present % frame_slots)) (window_slots p) w.near

  -- the test says it of a window that the plan has
  is-here : (k : ℕ) → k < p.rate → Here k → InWindow p k (present % frame_slots)
  unfolding lies_in
  is-here k l e = record { known = l; near = ltb-true (since (first p k) (present % frame_slots)) (window_slots p) e }

  -- one more window below, that now lies in or not
  below-here : (k : ℕ) → Here k → offset_below slots present p (suc k) ≡ offset_in slots present p k
  below-here k e = rw e

  below-not : (k : ℕ) → lies_in p k (present % frame_slots) ≡ false → offset_below slots present p (suc k) ≡ offset_below slots present p k
  below-not k e = rw e

  -- now lies in none of the windows below m
  below_none : (m : ℕ) → ((k : ℕ) → k < m → Here k → ⊥) → offset_below slots present p m ≡ 0
  below_none zero none = refl
  below_none (suc m) none =
      below-not m (not-true (lies_in p m (present % frame_slots)) (none m (omega arith))) ∙ below_none m (λ k l. none k (omega arith))

  -- now lies in one of them alone
  below_one : (k m : ℕ) → k < m → Here k → ((j : ℕ) → j < m → Here j → k ≡ j) → offset_below slots present p m ≡ offset_in slots present p k
  below_one k zero l h only = absurd (omega arith)
  below_one k (suc m) l h only = go (ℕ_discrete k m) (λ d. below_one k m (omega (arith, d)) h (λ j q. only j (omega arith)))
    where
      go : Dec (k ≡ m) → ((k ≡ m → ⊥) → offset_below slots present p m ≡ offset_in slots present p k)
          → offset_below slots present p (suc m) ≡ offset_in slots present p k
      go (yes e) rest = rw e (below-here m (rw e at h))
      go (no d) rest = below-not m (not-true (lies_in p m (present % frame_slots)) (λ b. d (only m (omega arith) b))) ∙ rest d

  -- so the offset goes by the window that now lies in
  pub offset-in : (k : ℕ) → InRange p → InWindow p k (present % frame_slots) → offset_of slots present p ≡ offset_in slots present p k
  unfolding offset_of
  offset-in k good w =
      below_one k p.rate w.known (here-is k w)
      (λ j l h. no-slot-in-two p good k j (present % frame_slots) (omega arith) w (is-here j l h))

  -- and is 0 where there is none
  pub offset-out : ((k : ℕ) → InWindow p k (present % frame_slots) → ⊥) → offset_of slots present p ≡ 0
  unfolding offset_of
  offset-out none = below_none p.rate (λ k l h. none k (is-here k l h))

  -- the answer, with the slots since the window's first one and the number of its slots as the code has them
  pub offset-found : (k v n r : ℕ) → InRange p → InWindow p k (present % frame_slots) → v ≡ since (first p k) (present % frame_slots) → n ≡ window_slots p
      → r ≡ first_own slots present (frame_slots - v) n → r ≡ offset_of slots present p
  unfolding offset_in
  offset-found k v n r good w g h e = e ∙ (λ i. first_own slots present (frame_slots - g i) (h i)) ∙ sym (offset-in k good w)

-- ---- the first own time of a stretch

-- r is the first of the n times from d ahead on that is ours, or 0
pub record Found (slots : List ℕ) (present d n r : ℕ) : Type 0 where
  pub none : r ≡ 0 → (j : ℕ) → d ≤ j → j < d + n → own_at slots present j ≡ false
  pub from : 0 < r → d ≤ r
  pub to : 0 < r → r < d + n
  pub own : 0 < r → own_at slots present r ≡ true
  pub first : (j : ℕ) → d ≤ j → j < r → own_at slots present j ≡ false

module _ (slots : List ℕ) (present : ℕ) where
  module _ (d n : ℕ) where
    -- the first time is ours
    first-here : 1 ≤ d → own_at slots present d ≡ true → Found slots present d (suc n) d
    first-here pos e =
        record {
          none = λ z j l m. absurd (omega arith);
          from = λ z. omega arith;
          to = λ z. omega arith;
          own = λ z. e;
          first = λ j l m. absurd (omega arith);
        }

    -- it is not
    first-later : (r : ℕ) → own_at slots present d ≡ false → Found slots present (suc d) n r → Found slots present d (suc n) r
    first-later r e h =
        record {
          none = λ z j l m. apart j l (λ q. h.none z j q (omega arith));
          from = λ z. omega (arith, h.from z);
          to = λ z. omega (arith, h.to z);
          own = h.own;
          first = λ j l m. apart j l (λ q. h.first j q m);
        }
      where
        -- the first one, or one of the others
        apart : (j : ℕ) → d ≤ j → (suc d ≤ j → own_at slots present j ≡ false) → own_at slots present j ≡ false
        apart j l k = go (ℕ_discrete j d)
          where
            go : Dec (j ≡ d) → own_at slots present j ≡ false
            go (yes q) = ap (own_at slots present) q ∙ e
            go (no q) = k (omega (arith, q))

  -- so it is for any stretch that does not begin now
  pub found : (d n : ℕ) → 1 ≤ d → Found slots present d n (first_own slots present d n)
  found d zero pos =
      record {
        none = λ z j l m. absurd (omega arith);
        from = λ z. absurd (omega arith);
        to = λ z. absurd (omega arith);
        own = λ z. absurd (omega arith);
        first = λ j l m. absurd (omega arith);
      }
  found d (suc n) pos = go (own_at slots present d) refl (found (suc d) n (omega arith))
    where
      go : (b : Bool) → own_at slots present d ≡ b → Found slots present (suc d) n (first_own slots present (suc d) n)
          → Found slots present d (suc n) (first_own slots present d (suc n))
      go true e h = rw e (first-here d n pos e)
      go false e h = rw e (first-later d n (first_own slots present (suc d) n) e h)

-- ---- how large an offset can be

-- a time found lies in its stretch
first-most : (slots : List ℕ) (present d n : ℕ) → first_own slots present d n ≤ d + n
first-most slots present d zero = omega arith
first-most slots present d (suc n) =
    pick-has (λ (x : ℕ). x ≤ d + suc n) (own_at slots present d) d (first_own slots present (suc d) n) (omega arith)
    (omega (arith, first-most slots present (suc d) n))

module _ (slots : List ℕ) (present : ℕ) (p : Plan) where
  -- in the next coming of a window
  in-most : (k : ℕ) → offset_in slots present p k ≤ (frame_slots + widest)
  unfolding offset_in
  in-most k =
      omega (arith, first-most slots present (frame_slots - since (first p k) (present % frame_slots)) (window_slots p), slots-most p)

  -- of whichever window
  below-most : (m : ℕ) → offset_below slots present p m ≤ (frame_slots + widest)
  below-most zero = omega arith
  below-most (suc m) =
      pick-has (λ (x : ℕ). x ≤ (frame_slots + widest)) (lies_in p m (present % frame_slots)) (offset_in slots present p m) (offset_below slots present p m) (in-most m) (below-most m)

  -- so it fits 14 bits
  pub offset-most : offset_of slots present p ≤ (frame_slots + widest)
  unfolding offset_of
  offset-most = below-most p.rate
