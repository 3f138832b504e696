use native.Mathlib.Omega.{arith}
use Rattle.bits.proofs.Spreading.{spread-bits}
use Rattle.bits.proofs.spread.Goals as goal

pub returns : goal.returns
returns c = spread-bits c.args.t (omega arith)
