use mathlib.Core.Path.{refl, ◌∙◌}
use Rattle.bits.specs.Bits.{eight_of}
use Rattle.bits.proofs.Spreading.{part-put}
use Rattle.bits.proofs.store_eight.Goals as goal

pub returns : goal.returns
unfolding eight_of
returns c = part-put _ _ 8 c.requires (c.copy_from_slice.ensures.after ∙ c.to_le_bytes.ensures) refl
