use Rattle.std.proofs.Common.{refl}
use Rattle.stuffing.specs.Marks.{fives_of}
use Rattle.stuffing.proofs.marks.fives.Goals as goal

pub returns : goal.returns
unfolding fives_of
returns c = refl
