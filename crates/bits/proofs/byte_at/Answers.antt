use mathlib.Core.Path.{ap, ◌∙◌}
use Rattle.std.specs.Int.{w64, from_le_bytes}
use Rattle.bits.proofs.Spreading.{gathered}
use Rattle.bits.proofs.byte_at.Goals as goal

pub returns : goal.returns
returns c = gathered _ _ c.requires.0 c.requires.1 (c.from_le_bytes-eight.ensures ∙ ap (from_le_bytes w64) c.chunk_at.ensures)
