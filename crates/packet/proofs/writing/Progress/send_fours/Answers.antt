use mathlib.Core.Path.{◌≡◌, sym, ap, ◌∙◌}
use mathlib.Core.List.{List}
use Prim.Native.Nat.{ℕ, ◌+◌, ◌*◌, ◌/◌, ◌≤◌, ◌<◌}
use native.Mathlib.Omega.{arith}
use lib.ListN.{length, get_or}
use lib.Seq.{take_all}
use Rattle.bits.specs.Bits.{sent_bits}
use Rattle.bits.proofs.Bytes.{sent_bits-end}
use Rattle.checking.specs.Check.{through, mirrored}
use Rattle.checking.proofs.Register.{through-end}
use Rattle.checking.proofs.Checking.{chunk-sent, chunk-more}
use Rattle.packet.proofs.Building.{underway-start, underway-room, underway-on, underway-end}
use Rattle.packet.proofs.writing.Progress.send_fours.Goals as goal

pub loop-four-init : goal.loop-four-init
loop-four-init c = (underway-start c.requires.1, sym (ap (through _) sent_bits-end ∙ through-end _))

pub send_four-s-requires : goal.send_four-s-requires
send_four-s-requires c = underway-room c.loop-four.invariant.0 4 (omega (arith, c.as_chunks.ensures.front_len, c.loop-four-test.true))

pub loop-four-preserved : goal.loop-four-preserved
loop-four-preserved c =
    let bytes = c.args.bytes.now in
    let l = c.loop-four in
    let i = l.four-index in
    let k = length bytes / 4 in
    let e = c.send_four-s in
    let known : (j : ℕ) → get_or bytes j 0 < 256 = λ j. (c.type_inv.bytes j).fits in
    let front = c.as_chunks.ensures.front in
    let more : i < k = omega (arith, c.as_chunks.ensures.front_len, c.loop-four-test.true) in
    let next : 4 * (i + 1) ≡ 4 * i + 4 = omega arith in (
      rw next (underway-on l.invariant.0 4 (chunk-sent bytes i k front more (omega arith) known c.from_le_bytes.ensures) e.ensures.0 e.auto.out),
      chunk-more bytes i k front more (omega arith) known c.from_le_bytes.ensures (mirrored c.args.self.reg) l.s.reg e.result.reg l.invariant.1 e.ensures.1,
    )

pub returns : goal.returns
returns c =
    let l = c.args.bytes.now in
    let i = c.loop-four.four-index in
    let past : length l ≤ 4 * i = omega (arith, c.requires, c.as_chunks.ensures.front_len, c.loop-four-test.false) in
    (underway-end c.loop-four.invariant.0 past, c.loop-four.invariant.1 ∙ ap (λ (t : List ℕ). through (mirrored c.args.self.reg) (sent_bits t)) (take_all (4 * i) l past))
