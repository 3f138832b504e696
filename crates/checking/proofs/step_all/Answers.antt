use Rattle.std.proofs.Common.{◌/◌, length, sym, ap, ◌∙◌, arith}
use Rattle.bits.proofs.Bytes.{sent_bits-end}
use Rattle.checking.specs.Check.{through, mirrored}
use Rattle.checking.proofs.Register.{through-end}
use Rattle.checking.proofs.Checking.{chunk-more}
use Rattle.checking.proofs.step_all.Goals as goal

pub loop-four-init : goal.loop-four-init
loop-four-init c = sym (ap (through _) sent_bits-end ∙ through-end _)

pub loop-four-preserved : goal.loop-four-preserved
loop-four-preserved c =
    let l = c.args.bytes.now in
    chunk-more l c.loop-four.four-index (length l / 4) c.as_chunks.ensures.front (omega (arith, c.as_chunks.ensures.front_len, c.loop-four-test.true)) (omega arith) (λ j. (c.type_inv.bytes j).fits)
    c.from_le_bytes.ensures (mirrored c.args.from) c.loop-four.reg c.step-reg.result c.loop-four.invariant c.step-reg.ensures
