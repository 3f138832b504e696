-- What the test of a plan says.
-- Assumes nothing.
use mathlib.Core.Path.{◌≡◌, ap₂, ◌∙◌}
use mathlib.Core.Bool.{Bool, true, false}
use mathlib.Core.Logic.{◌↔◌}
use Prim.Native.Nat.{ℕ, ◌-◌}
use native.Mathlib.Omega.{arith}
use borrow.Author.Tests.{le-leb, leb-true}
use lib.Dec.{T, leb}
use Rattle.laws.specs.Tests.{between}
use Rattle.laws.proofs.Tests.{both_left, both_right, between-yes, between_is, not-true}
use Rattle.limits.specs.Limits.{frame_slots, most_rate}
use Rattle.plan.specs.declared.Plan.{Plan}
use Rattle.plan.specs.Plan.{InRange}
use Rattle.book.specs.Planning.{plan_fits}

-- a plan that the test of its numbers lets through is in its range
pub in-range : (p : Plan) → plan_fits p.rate p.start ≡ true → InRange p
unfolding plan_fits
in-range p e =
    let r = between_is 1 most_rate p.rate (both_left (between 1 most_rate p.rate) (leb p.start (frame_slots - 1)) e) in
    let h = leb-true p.start (frame_slots - 1) (both_right (between 1 most_rate p.rate) (leb p.start (frame_slots - 1)) e) in
    record { some = omega (arith, r.0); most = omega (arith, r.1); starts = omega (arith, h) }

-- what the test of a changed plan says
module _ (p : Plan) (rate start : ℕ) (e : p.rate ≡ rate) (f : p.start ≡ start) where
  fits : InRange p → plan_fits rate start ≡ true
  unfolding plan_fits
  fits g = simp (between-yes 1 most_rate rate (omega (arith, g.some)) (omega (arith, g.most)), le-leb start (frame_slots - 1) (omega (arith, g.starts)))

  pub fits-is : (r : Bool) → T r ↔ InRange p → plan_fits rate start ≡ r
  fits-is true g = fits (g.0 tt)
  fits-is false g = not-true (plan_fits rate start) (λ h. g.1 (in-range p (ap₂ plan_fits e f ∙ h)))
