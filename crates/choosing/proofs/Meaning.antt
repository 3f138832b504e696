-- The window meant is at most 451 slots, from at most a frame ahead on; and its slots one by one, by who holds them.
-- Assumes nothing.
use mathlib.Core.Path.{◌≡◌}
use mathlib.Core.Bool.{true, false}
use mathlib.Core.List.{List}
use Prim.Native.Nat.{ℕ, ◌≤◌}
use native.Mathlib.Omega.{arith}
use borrow.Author.Tests.{eq-eqb, ne_eqb}
use lib.ListN.{get_or}
use Rattle.limits.specs.Limits.{frame_slots, widest}
use Rattle.plan.specs.declared.Plan.{Plan}
use Rattle.plan.specs.Plan.{slots}
use Rattle.plan.proofs.Gaps.{half-most}
use Rattle.book.specs.Book.{ours, place}
use Rattle.candidates.specs.declared.Window.{Window}
use Rattle.candidates.specs.Slot.{is_own, holder_at}
use Rattle.choosing.specs.Choosing.{window_meant}

module _ (present : ℕ) (p : Plan) (k m : ℕ) (v : Window) (is : v ≡ window_meant present p k m) where
  -- it starts at most a frame ahead
  pub near : v.first ≤ frame_slots
  unfolding window_meant
  near = rw is (omega arith)

  -- it has at most 451 slots
  pub narrow : v.width ≤ widest
  unfolding window_meant slots
  narrow = rw is (omega (arith, half-most p))

  -- it is for the time-out asked
  pub timed : v.timeout ≡ m
  unfolding window_meant
  timed = rw is

-- the time d ahead is at the place q
module _ (book : List ℕ) (present d q : ℕ) (is : q ≡ place present d) where
  -- it is ours
  pub own-there : get_or book q 0 ≡ ours → is_own (holder_at book present d) ≡ true
  unfolding is_own holder_at
  own-there e = eq-eqb (get_or book (place present d) 0) ours (rw is at e)

  -- it is not
  pub other-there : (get_or book q 0 ≡ ours → ⊥) → is_own (holder_at book present d) ≡ false
  unfolding is_own holder_at
  other-there n = ne_eqb (get_or book (place present d) 0) ours (rw is at n)
