use Rattle.packet.proofs.Building.{Underway}
use Rattle.packet.proofs.writing.send_few.Given as goal

abbrev pub invariant-loop-b : goal.invariant-loop-b
invariant-loop-b l = Underway l.bytes l.initial.place l.initial.out l.place l.out l.b-index
