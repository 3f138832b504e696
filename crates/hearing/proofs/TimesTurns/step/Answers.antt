use borrow.Author.Tests.{ltb-true}
use Rattle.limits.specs.Limits.{slot_times}
use Rattle.hearing.proofs.Runs.{step-needs, counts-more}
use Rattle.hearing.proofs.TimesTurns.step.Goals as goal

pub book_one-requires : goal.book_one-requires
book_one-requires c = step-needs c.requires.2.3 (ltb-true c.args.t.at slot_times c.requires.1) c.requires.0

-- one time more is done and counted
pub returns-clause-keeps : goal.returns-clause-keeps
returns-clause-keeps c =
    λ ys bs zs many stands. counts-more stands (ltb-true c.args.t.at slot_times c.requires.1) c.book_one.result c.book_one.new.book c.book_one.ensures
