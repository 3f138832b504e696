-- `message::signs::unsigned` meets its contract: each need by its lemma of proofs/Complement.antt.
use mathlib.Core.Path.{ap, ◌∙◌}
use Rattle.message.specs.Signs.{unsigned_of}
use Rattle.message.proofs.Complement.{neg-read, pos-read, neg-in-is, neg-out-is, pos-in-is, pos-out-is}
use Rattle.message.proofs.signs.unsigned.Goals as goal

pub returns-then-below-half : goal.returns-then-below-half
returns-then-below-half c = neg-in-is _ _ c.requires c.if-below-half.true ∙ ap (unsigned_of _) (neg-read _ c.ranges.x c.if-x-lt0.true)

pub returns-then-x-lt0 : goal.returns-then-x-lt0
returns-then-x-lt0 c = neg-out-is _ _ c.requires c.if-below-half.false ∙ ap (unsigned_of _) (neg-read _ c.ranges.x c.if-x-lt0.true)

pub returns-then-n-half : goal.returns-then-n-half
returns-then-n-half c = pos-in-is _ _ c.requires c.if-n-half.true ∙ ap (unsigned_of _) (pos-read _ c.ranges.x c.if-x-lt0.false)

pub returns : goal.returns
returns c = pos-out-is _ _ c.requires c.if-n-half.false ∙ ap (unsigned_of _) (pos-read _ c.ranges.x c.if-x-lt0.false)
