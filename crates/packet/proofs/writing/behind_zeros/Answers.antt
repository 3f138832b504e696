use native.Mathlib.Omega.{arith}
use Rattle.packet.proofs.Behind.{behind-none, behind_more}
use Rattle.packet.proofs.writing.behind_zeros.Goals as goal

pub loop-b-init : goal.loop-b-init
loop-b-init c = (behind-none c.args.bytes.now, omega arith)

pub loop-b-preserved : goal.loop-b-preserved
loop-b-preserved c =
    let l = c.loop-b in
    rw c.from.ensures (behind_more c.args.bytes.now l.b-index l.v c.loop-b-test.true c.requires l.invariant.1 l.invariant.0, omega (arith, l.invariant.1, c.type_inv.bytes l.b-index))
