use Rattle.std.proofs.Common.{arith}
use Rattle.stuffing.proofs.Marking.{lowest-is}
use Rattle.stuffing.proofs.marks.up_to_lowest.Goals as goal

pub returns : goal.returns
returns c = lowest-is c.args.m (omega (arith, c.ranges.m))
