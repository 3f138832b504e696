-- The run starts, and it ends with what is promised: proofs/Frames.antt.
use Rattle.std.proofs.Common.{sym, subst, arith}
use borrow.Author.Tests.{ltb-false}
use Rattle.register.specs.declared.Turn.{Turn}
use Rattle.register.specs.declared.Reply.{Reply}
use Rattle.walks.specs.Out.{Ends}
use Rattle.choosing.specs.Owning.{Upto, owned_out}
use Rattle.choosing.proofs.Frames as Frames
use Rattle.choosing.proofs.own.own_all.Goals as goal

pub run-t-requires-clause-begins : goal.run-t-requires-clause-begins
run-t-requires-clause-begins c =
    let a = c.args in
    subst (λ (t : Turn). Upto a.o a.reg.now a.book.now t a.reg.now a.book.now) (sym c.begin.ensures)
    (Frames.starts a.o a.reg.now a.book.now c.requires.inside)

pub returns : goal.returns
returns c =
    let a = c.args in
    let t = c.run-t.result in
    let none = ltb-false 0 t.left c.run-t.ensures.done in
    subst (λ (r : Reply). Ends (owned_out a.o a.reg.now a.book.now) r c.run-t.new.reg c.run-t.new.book) (sym c.replied.ensures)
    (Frames.ends a.o a.reg.now a.book.now t c.run-t.new.reg c.run-t.new.book c.run-t.ensures.stands (omega (arith, none)))
