use mathlib.Core.Path.{sym, ap, ◌∙◌}
use Prim.Native.Nat.{ℕ, ◌%◌}
use native.Mathlib.Omega.{arith}
use Rattle.limits.specs.Limits.{frame_slots}
use Rattle.plan.specs.Plan.{since}
use Rattle.plan.proofs.Gaps.{first_below}
use Rattle.reporting.proofs.Offsets.{slots-most, offset-out, offset-found}
use borrow.Author.Rules.{rules}
use Rattle.reporting.proofs.look.next_own.Goals as goal

pub overflow_sub-since : goal.overflow_sub-since
overflow_sub-since c = omega (arith, c.from.ensures, c.first.ensures, first_below c.args.p c.in-Some.k)

pub first_own-requires : goal.first_own-requires
first_own-requires c =
    (search rules, omega (arith, c.slots.ensures, slots-most c.args.p))

pub returns-in-None : goal.returns-in-None
returns-in-None c = sym (offset-out _ _ _ c.in-None.ensures)

pub returns-in-Some : goal.returns-in-Some
returns-in-Some c =
    let since_first = ap (λ (f : ℕ). since f (c.args.present % frame_slots)) (c.from.ensures ∙ c.first.ensures) in
    offset-found _ _ _ _ _ _ _ c.requires.1 c.in-Some.ensures since_first (c.from-in-Some.ensures ∙ c.slots.ensures) c.first_own.ensures
