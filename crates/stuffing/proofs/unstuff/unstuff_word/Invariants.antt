use Rattle.std.proofs.Common.{◌-◌}
use Rattle.stuffing.proofs.Leaving.{Leaving}
use Rattle.stuffing.proofs.unstuff.unstuff_word.Given as goal

abbrev pub invariant-loop-s : goal.invariant-loop-s
invariant-loop-s l = Leaving l.v l.m l.s

abbrev pub decreases-loop-s : goal.decreases-loop-s
decreases-loop-s l = 32 - l.s.done
