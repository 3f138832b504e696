use Rattle.std.proofs.Common.{refl, rules}
use Rattle.book.proofs.Plans.{fits-is}
use Rattle.calls.specs.Told.{plan_task}
use Rattle.calls.proofs.told.plan_task.Goals as goal

pub returns-then-not-good : goal.returns-then-not-good
unfolding plan_task
returns-then-not-good c = let e = fits-is _ _ _ refl refl c.good.result c.good.ensures in search rules

pub returns : goal.returns
unfolding plan_task
returns c = let e = fits-is _ _ _ refl refl c.good.result c.good.ensures in search rules
