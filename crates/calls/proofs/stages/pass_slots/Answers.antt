use Rattle.std.proofs.Common.{sym, subst, arith}
use borrow.Author.Tests.{ltb-false}
use Rattle.register.specs.declared.Turn.{Turn}
use Rattle.calls.specs.Stages.{Upto}
use Rattle.calls.proofs.Running.{begins, ends}
use Rattle.calls.proofs.stages.pass_slots.Goals as goal

pub run-t-requires-clause-begins : goal.run-t-requires-clause-begins
run-t-requires-clause-begins c =
    let a = c.args in
    subst (λ (t : Turn). Upto a.watch a.passes a.reg.now a.book.now t a.reg.now a.book.now) (sym c.begin.ensures) (begins a.watch a.passes a.reg.now a.book.now)

pub returns : goal.returns
returns c =
    let a = c.args in
    let t = c.run-t.result in
    let none = ltb-false 0 t.left c.run-t.ensures.done in
    ends a.watch a.passes a.reg.now a.book.now t c.run-t.new.reg c.run-t.new.book c.run-t.ensures.stands (omega (arith, none))
