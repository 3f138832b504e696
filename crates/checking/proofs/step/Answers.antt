use native.Mathlib.Omega.{arith}
use Rattle.laws.proofs.Xor.{xor}
use Rattle.checking.proofs.Register.{part, quotient, product, divided, divided-16, four-in}
use Rattle.checking.proofs.step.Goals as goal

pub overflow_cast-result : goal.overflow_cast-result
unfolding xor part quotient product divided
overflow_cast-result c = record { fits = divided-16 c.args.reg c.args.four (omega (arith, c.ranges.reg)) (omega (arith, c.ranges.four)) }

pub returns : goal.returns
unfolding xor part quotient product divided
returns c = four-in c.args.reg c.args.four (omega (arith, c.ranges.reg)) (omega (arith, c.ranges.four))
