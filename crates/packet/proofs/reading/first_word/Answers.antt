use native.Mathlib.Omega.{arith}
use Rattle.packet.proofs.Taken.{first-is}
use Rattle.packet.proofs.reading.first_word.Goals as goal

pub returns : goal.returns
returns c = (first-is _ 8 c.requires.0 (omega (arith, c.requires.2)) c.word_at.ensures _ c.requires.1, omega arith)
