use native.Mathlib.Omega.{arith}
use Rattle.plan.proofs.Gaps.{nominal-below, half-most}
use Rattle.plan.proofs.Plan.first.Goals as goal

pub overflow_add-result : goal.overflow_add-result
overflow_add-result c = let a = c.args in omega (arith, c.nominal.ensures, nominal-below a.self a.k)

pub overflow_sub-result : goal.overflow_sub-result
overflow_sub-result c = let a = c.args in omega (arith, c.half.ensures, half-most a.self)
