use Rattle.std.proofs.Common.{List, sym, ap, subst, ◌∙◌}
use Rattle.ship.specs.declared.Station.{Station}
use Rattle.register.specs.Register.{won_in}
use Rattle.register.proofs.run.Goals as goal

pub loop-book-preserved : goal.loop-book-preserved
loop-book-preserved g c =
    let a = c.args in
    let l = c.loop-book in
    let u = c.step-turn.result in
    subst (λ (zs : List Station). g.R.Turns.stands a.r.now a.reg.now a.book.now u zs c.step-turn.new.book)
    (sym (c.win.ensures ∙ ap (λ (zs : List Station). won_in zs u) c.lose.ensures))
    (c.step-turn.ensures.keeps a.reg.now a.book.now l.reg (l.auto.reg ∙ c.requires.many) l.invariant)
