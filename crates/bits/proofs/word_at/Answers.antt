use mathlib.Core.Path.{◌∙◌}
use Rattle.bits.proofs.Spreading.{word-is}
use Rattle.bits.proofs.word_at.Goals as goal

pub returns : goal.returns
returns c =
    c.from_le_bytes.ensures
    ∙ word-is c.args.bits.now c.args.at c.requires.1 c.byte_at.ensures c.byte_at-2.ensures c.byte_at-3.ensures c.byte_at-4.ensures
