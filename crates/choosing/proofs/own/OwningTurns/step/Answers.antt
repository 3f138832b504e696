-- A turn may be made where the run stands, and it stands after it: proofs/Frames.antt.
use borrow.Author.Tests.{ltb-true}
use Rattle.choosing.proofs.Frames.{step-met, upto-turns}
use Rattle.choosing.proofs.own.OwningTurns.step.Goals as goal

pub own_one-requires : goal.own_one-requires
own_one-requires c =
    let a = c.args in
    let some = ltb-true 0 a.t.left c.requires.1 in
    let run = c.requires.2 in
    step-met a.self.now run.0 run.1 a.t run.2 a.book.now run.3 some c.requires.0

pub returns-clause-keeps : goal.returns-clause-keeps
returns-clause-keeps c =
    let a = c.args in
    let some = ltb-true 0 a.t.left c.requires.1 in
    λ ys bs zs many stands. upto-turns a.self.now ys bs a.t zs a.book.now stands some c.own_one.result c.own_one.new.book c.own_one.ensures many
