use mathlib.Core.Path.{refl, ◌∙◌}
use Rattle.bits.specs.Field.{bytes_of_word}
use Rattle.bits.proofs.Spreading.{part-put}
use Rattle.bits.proofs.field.put_word.Goals as goal

pub returns : goal.returns
unfolding bytes_of_word
returns c = part-put _ _ 8 c.requires (c.copy_from_slice.ensures.after ∙ c.to_be_bytes.ensures) refl
