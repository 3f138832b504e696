use mathlib.Core.Path.{sym, ◌∙◌}
use native.Mathlib.Omega.{arith}
use Rattle.packet.proofs.RoundTrip.{written-few}
use Rattle.board.proofs.Faces.{counts}
use Rattle.board.proofs.qs_packet_write.Goals as goal

pub tell-requires : goal.tell-requires
tell-requires c = counts c.write.result (λ n e. omega (arith, written-few _ _ _ (sym c.write.ensures.0 ∙ e)))
