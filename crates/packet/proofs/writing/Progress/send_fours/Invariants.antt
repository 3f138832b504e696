use mathlib.Core.Path.{◌≡◌}
use Prim.Native.Nat.{◌*◌}
use lib.ListN.{take}
use Rattle.bits.specs.Bits.{sent_bits}
use Rattle.checking.specs.Check.{through, mirrored}
use Rattle.packet.proofs.Building.{Underway}
use Rattle.packet.proofs.writing.Progress.send_fours.Given as goal

abbrev pub invariant-loop-four : goal.invariant-loop-four
invariant-loop-four l =
    Underway l.bytes l.initial.s.place l.initial.out l.s.place l.out (4 * l.four-index) × (mirrored l.s.reg ≡ through (mirrored l.initial.s.reg) (sent_bits (take (4 * l.four-index) l.bytes)))
