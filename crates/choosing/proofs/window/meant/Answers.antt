use native.Mathlib.Omega.{arith}
use Rattle.plan.proofs.Gaps.{first_below}
use Rattle.choosing.specs.Choosing.{window_meant}
use Rattle.choosing.proofs.window.meant.Goals as goal

pub overflow_add-first : goal.overflow_add-first
overflow_add-first c = let a = c.args in omega (arith, c.first.ensures, first_below a.p a.k)

pub returns : goal.returns
unfolding window_meant
returns c = rw (c.first.ensures, c.slots.ensures)
