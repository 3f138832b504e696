use Rattle.std.proofs.Common.{ℕ, ◌+◌, ◌*◌, ◌≡◌, refl, ap, ◌∙◌, arith}
use lib.Seq.{sets}
use Rattle.bits.specs.Bits.{low_first}
use Rattle.stuffing.proofs.Sending.{leads, tail-four}
use Rattle.stuffing.proofs.stuff.Sending.send.Goals as goal

pub invariant_of-result : goal.invariant_of-result
invariant_of-result g c = record { four = tail-four (8 * g.row.BYTES) c.args.v (omega arith) (omega arith) c.requires.2 c.args.self.four c.stuff_word-x.ensures.stuffs c.stuff_word-x.ensures.few }

pub returns : goal.returns
returns g c =
    let n = 8 * g.row.BYTES in
    let x = c.stuff_word-x in
    let more : 8 * (g.row.BYTES + 1) ≡ n + 8 = omega arith in
    leads n c.args.v (omega arith) (omega arith) c.requires.2 c.args.self.four x.ensures.stuffs x.ensures.few refl refl refl
    (c.put.ensures ∙ ap (λ (k : ℕ). sets c.args.out.now c.args.self.at (low_first k x.result.bits)) more)
