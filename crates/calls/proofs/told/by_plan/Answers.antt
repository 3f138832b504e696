use Rattle.std.proofs.Common.{refl, rules}
use Rattle.book.proofs.Plans.{fits-is}
use Rattle.calls.proofs.told.by_plan.Goals as goal

pub returns-then-not-good : goal.returns-then-not-good
returns-then-not-good c = let e = fits-is _ _ _ refl refl c.good.result c.good.ensures in search rules

pub returns-then-not-good-2 : goal.returns-then-not-good-2
returns-then-not-good-2 c = let e = fits-is _ _ _ refl refl c.good.result c.good.ensures in search rules

pub returns : goal.returns
returns c = let e = fits-is _ _ _ refl refl c.good.result c.good.ensures in search rules
