use Rattle.std.proofs.Common.{◌≡◌, ◌*◌}
use lib.Seq.{sets}
use Rattle.bits.specs.Bits.{low_first}
use Rattle.stuffing.proofs.stuff.put.Given as goal

abbrev pub invariant-loop-i : goal.invariant-loop-i
invariant-loop-i l = l.out ≡ sets l.initial.out l.at (low_first (8 * l.i) l.bits)
