use Rattle.std.proofs.Common.{◌≡◌, ℕ, ◌+◌, ◌*◌, ◌/◌, ◌%◌, ◌^◌, refl, ap, ◌∙◌, arith}
use lib.Seq.{sets}
use Rattle.bits.specs.Bits.{low_first, high_first}
use Rattle.bits.proofs.Bytes.{sent-byte}
use Rattle.stuffing.proofs.Sending.{byte_more}
use Rattle.stuffing.proofs.stuff.put.Goals as goal

pub loop-i-init : goal.loop-i-init
unfolding low_first
loop-i-init c = refl

pub loop-i-preserved : goal.loop-i-preserved
loop-i-preserved c =
    let l = c.loop-i in
    let x = c.args.bits in
    let n : 8 * l.i + 8 ≡ 8 * (l.i + 1) = omega arith in
    let e = c.store_eight.ensures
    ∙ ap (sets l.out (c.args.at + 8 * l.i)) (c.spread.ensures ∙ ap (high_first 8) c.turn.ensures ∙ sent-byte (x / 2 ^ (8 * l.i) % 256) (omega arith)) in
    byte_more (8 * l.i) x c.args.at c.args.out.now l.invariant e ∙ ap (λ (k : ℕ). sets c.args.out.now c.args.at (low_first k x)) n
