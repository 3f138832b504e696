use mathlib.Core.Path.{sym, ap, ◌∙◌}
use native.Mathlib.Omega.{arith}
use Rattle.bits.specs.Bits.{low_first}
use Rattle.packet.proofs.Behind.{one-taken, behind-in}
use Rattle.packet.proofs.Building.{underway-room, underway-on, underway-end}
use Rattle.packet.proofs.writing.send_few.Goals as goal

pub send-place-requires : goal.send-place-requires
send-place-requires c = (omega arith, omega arith, omega (arith, c.from.ensures, c.type_inv.bytes c.loop-b.b-index), underway-room c.loop-b.invariant 1 (omega (arith, c.loop-b-test.true)))

pub loop-b-preserved : goal.loop-b-preserved
loop-b-preserved c =
    let l = c.loop-b in
    let e = c.send-place in
    underway-on l.invariant 1 (one-taken c.args.bytes.now l.b-index c.loop-b-test.true ∙ ap (low_first 8) (sym c.from.ensures)) e.ensures e.auto.out

pub returns : goal.returns
returns c =
    (underway-end c.loop-b.invariant c.loop-b-test.false, behind-in c.args.bytes.now c.before-2.result c.step.result c.behind_zeros.result (omega (arith, c.requires.0)) c.before-2.ensures c.behind_zeros.ensures c.step.ensures)
