use Prim.Native.Nat.{◌-◌, ◌%◌}
use native.Mathlib.Omega.{arith}
use Rattle.checking.proofs.Checking.{behind-zeros}
use Rattle.checking.proofs.register_after.Goals as goal

pub returns : goal.returns
returns c =
    let n = c.args.n in
    behind-zeros c.args.bytes.now n ((24 - n) % 4) c.before-2.result c.step_all.result c.requires.0 (omega arith) c.requires.2 c.before-2.ensures c.step_all.ensures
