use Rattle.std.proofs.Common.{rules, length, replicate, ap, ◌∙◌}
use Rattle.ship.specs.declared.Station.{Station}
use Rattle.calls.proofs.Joining.{begun-is}
use Rattle.calls.proofs.stages.begin.Goals as goal

pub returns : goal.returns
returns c = let a = c.args in
    begun-is a.watch a.reg.now a.book.now _ c.fill.new.self c.clear.new.book c.requires (search rules)
    (c.fill.ensures.after (λ y e. e) ∙ ap (λ (s : Station). replicate (length a.reg.now) s) c.blank.ensures) c.clear.ensures
