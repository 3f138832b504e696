use mathlib.Core.Path.{sym, ◌∙◌}
use native.Mathlib.Omega.{arith}
use Rattle.packet.proofs.RoundTrip.{received-few}
use Rattle.board.proofs.Faces.{counts}
use Rattle.board.proofs.qs_packet_read.Goals as goal

pub tell-requires : goal.tell-requires
tell-requires c = counts c.read.result (λ n e. omega (arith, received-few _ _ _ (sym c.read.ensures.0 ∙ e)))
