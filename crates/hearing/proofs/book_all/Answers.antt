use borrow.Author.Tests.{ltb-false}
use Rattle.limits.specs.Limits.{slot_times}
use Rattle.hearing.proofs.Runs.{counts-begin, counts-end}
use Rattle.hearing.proofs.book_all.Goals as goal

pub run-requires-clause-begins : goal.run-requires-clause-begins
run-requires-clause-begins c = counts-begin _ _ c.requires c.next_from-first.ensures c.begin.ensures

pub returns : goal.returns
returns c = counts-end c.run.ensures.stands (ltb-false c.run.result.at slot_times c.run.ensures.done)
