use borrow.Author.Tests.{ltb-true}
use Rattle.calls.proofs.Running.{next}
use Rattle.calls.proofs.stages.PassingTurns.step.Goals as goal

pub pass_slot-requires : goal.pass_slot-requires
pass_slot-requires c = (c.requires.0, ltb-true 0 c.args.t.left c.requires.1)

-- one slot more has passed
pub returns-clause-keeps : goal.returns-clause-keeps
returns-clause-keeps c =
    let a = c.args in
    let p = a.self.now in
    λ ys bs zs many stands. next p.watch p.passes ys bs a.t zs a.book.now c.pass_slot.result c.pass_slot.new.book many stands c.pass_slot.ensures
