use mathlib.Core.Path.{◌≡◌}
use native.Mathlib.Omega.{arith}
use Rattle.checking.proofs.Register.{none_before, one-before, two-before, three-before, four-before}
use Rattle.checking.proofs.before.Goals as goal

pub returns-in-0 : goal.returns-in-0
returns-in-0 c = rw c.in-0.is none_before

pub returns-in-1 : goal.returns-in-1
returns-in-1 c = rw c.in-1.is one-before

pub returns-in-2 : goal.returns-in-2
returns-in-2 c = rw c.in-2.is two-before

pub returns-in-3 : goal.returns-in-3
returns-in-3 c = rw c.in-3.is three-before

pub returns-in_default : goal.returns-in_default
returns-in_default c =
    let e : c.args.count ≡ 4 = omega arith in
    rw e four-before
