use mathlib.Core.Path.{ap, ◌∙◌}
use Rattle.message.specs.declared.state.SubMessage.TheVariants.{Time}
use Rattle.message.proofs.Readings.{sub-offset, sub-time, sub-slot, sub-stations}
use Rattle.message.proofs.state.sub_in.Goals as goal

pub returns-then-t-eq0 : goal.returns-then-t-eq0
returns-then-t-eq0 c = sub-offset _ _ _ c.if-t-eq0.true

pub returns-then-t-eq1 : goal.returns-then-t-eq1
returns-then-t-eq1 c = ap Time c.clock_in.ensures ∙ sub-time _ _ _ c.if-t-eq0.false c.if-t-eq1.true

pub returns-then-t-eq0-2 : goal.returns-then-t-eq0-2
returns-then-t-eq0-2 c = sub-slot _ _ _ c.if-t-eq0.false c.if-t-eq1.false c.if-t-eq0-2.true

pub returns : goal.returns
returns c = sub-stations _ _ _ c.if-t-eq0.false c.if-t-eq1.false c.if-t-eq0-2.false
