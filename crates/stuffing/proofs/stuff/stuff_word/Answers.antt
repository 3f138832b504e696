use Rattle.std.proofs.Common.{◌+◌, ◌*◌, ap, arith}
use Rattle.stuffing.specs.declared.marks.Marked.{Marked}
use Rattle.stuffing.proofs.Filling.{filling-start, filling-small, filling-few, filling-on, filling-end, done_more, fives-bound}
use Rattle.stuffing.proofs.stuff.stuff_word.Goals as goal

pub put_zero-s-requires : goal.put_zero-s-requires
put_zero-s-requires c =
    let v = c.args.v in
    (omega (arith, c.requires.1), omega (arith, c.requires.1, c.fives.ensures, fives-bound (v * 16 + c.args.tail) v (omega (arith, c.requires.0))), omega arith)

pub loop-s-init : goal.loop-s-init
loop-s-init c = rw c.put_zero-s.ensures (filling-on (filling-start c.requires.0 c.requires.1 c.fives.ensures))

pub put_zero-s-requires-in-loop-s : goal.put_zero-s-requires-in-loop-s
put_zero-s-requires-in-loop-s c = filling-small c.loop-s.invariant

pub loop-s-smaller : goal.loop-s-smaller
loop-s-smaller c =
    let f = c.loop-s.invariant in
    omega (arith, ap (λ (s : Marked). s.done) c.put_zero-s-in-loop-s.ensures, done_more f (omega (arith, c.loop-s-test.true)), filling-few (filling-on f))

pub loop-s-preserved : goal.loop-s-preserved
loop-s-preserved c = rw c.put_zero-s-in-loop-s.ensures (filling-on c.loop-s.invariant)

pub returns-clause-stuffs : goal.returns-clause-stuffs
returns-clause-stuffs c = filling-end c.loop-s.invariant c.loop-s-test.false

pub returns-clause-few : goal.returns-clause-few
returns-clause-few c = filling-few c.loop-s.invariant
