use Prim.Native.Nat.{◌^◌, ◌<◌}
use Rattle.packet.proofs.Behind.{Behind}
use Rattle.packet.proofs.writing.behind_zeros.Given as goal

abbrev pub invariant-loop-b : goal.invariant-loop-b
invariant-loop-b l = Behind l.bytes l.b-index l.v × (l.v < 2 ^ 32)
