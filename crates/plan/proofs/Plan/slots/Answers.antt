use native.Mathlib.Omega.{arith}
use Rattle.plan.proofs.Gaps.{half-most}
use Rattle.plan.proofs.Plan.slots.Goals as goal

pub overflow_mul-result : goal.overflow_mul-result
overflow_mul-result c = omega (arith, c.half.ensures, half-most c.args.self)

pub overflow_add-result : goal.overflow_add-result
overflow_add-result c = omega (arith, c.half.ensures, half-most c.args.self)
