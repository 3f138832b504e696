use Rattle.std.proofs.Common.{rules}
use Rattle.calls.specs.Stages.{Sized}
use Rattle.calls.proofs.Joining.{plan-comes}
use Rattle.calls.proofs.stages.answer.Goals as goal

pub returns-in-Ok-Plan : goal.returns-in-Ok-Plan
returns-in-Ok-Plan c = let a = c.args in
    let z : Sized a.reg.now a.book.now = search rules in
    let p = plan-comes a.watch c.in-Ok-Plan.p a.reg.now a.book.now c.replan.result c.replan.new.book z c.replan.ensures in
    search rules
