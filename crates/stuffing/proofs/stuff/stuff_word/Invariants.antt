use Rattle.std.proofs.Common.{◌-◌}
use Rattle.stuffing.proofs.Filling.{Filling}
use Rattle.stuffing.proofs.stuff.stuff_word.Given as goal

abbrev pub invariant-loop-s : goal.invariant-loop-s
invariant-loop-s l = Filling l.tail l.v l.s

abbrev pub decreases-loop-s : goal.decreases-loop-s
decreases-loop-s l = 7 - l.s.done
