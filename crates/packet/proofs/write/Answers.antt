use mathlib.Core.Path.{refl}
use Rattle.packet.specs.Packet.{write_out}
use Rattle.packet.proofs.Answers.{write-length}
use Rattle.packet.proofs.Within.{within}
use Rattle.packet.proofs.write.Goals as goal

pub returns-then-not-contains : goal.returns-then-not-contains
unfolding write_out
returns-then-not-contains c =
    let r = c.new.ensures in
    (write-length _ _ (within _ c.contains.ensures.value r.start r.end r.exhausted c.if-not-contains.true), refl)
