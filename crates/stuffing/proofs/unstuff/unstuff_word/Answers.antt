use Rattle.std.proofs.Common.{ap, arith}
use Rattle.stuffing.specs.declared.marks.Marked.{Marked}
use Rattle.stuffing.proofs.Leaving.{leaving-start, leaving-small, leaving-on, leaving-end, done_more}
use Rattle.stuffing.proofs.unstuff.unstuff_word.Goals as goal

pub loop-s-init : goal.loop-s-init
loop-s-init c = rw c.leave_out-s.ensures (leaving-on (leaving-start c.requires.0 c.requires.1 c.requires.2))

pub loop-s-smaller : goal.loop-s-smaller
loop-s-smaller c =
    let l = c.loop-s.invariant in
    omega (arith, ap (λ (s : Marked). s.done) c.leave_out-s-in-loop-s.ensures, done_more l (omega (arith, c.loop-s-test.true)), l.sum, (leaving-small (leaving-on l)).2)

pub loop-s-preserved : goal.loop-s-preserved
loop-s-preserved c = rw c.leave_out-s-in-loop-s.ensures (leaving-on c.loop-s.invariant)

pub returns : goal.returns
returns c = leaving-end c.loop-s.invariant c.loop-s-test.false
