use Rattle.std.proofs.Common.{◌≡◌, ◌*◌, take}
use Rattle.bits.specs.Bits.{sent_bits}
use Rattle.checking.specs.Check.{through, mirrored}
use Rattle.checking.proofs.step_all.Given as goal

abbrev pub invariant-loop-four : goal.invariant-loop-four
invariant-loop-four l = mirrored l.reg ≡ through (mirrored l.from) (sent_bits (take (4 * l.four-index) l.bytes))
