-- The number is read back from its bits.
use Rattle.std.proofs.Common.{ℕ, ◌+◌, ◌*◌, ◌%◌, ◌∙◌}
use mathlib.Core.Path.{ap₂}
use mir.Syntax.{w32}
use mir.Facts.{to_z-of_z}
use borrow.Author.Rules.{sfits_of}
use Rattle.message.specs.Signs.{signed_of}
use Rattle.testface.specs.Testface.{place_at}
use Rattle.testface.proofs.position.Goals as goal

pub returns : goal.returns
unfolding place_at
returns c =
    to_z-of_z {w = w32} (sfits_of c.signed.type_inv) ∙ c.signed.ensures
    ∙ ap₂ (λ (a b : ℕ). signed_of 28 (a + 65536 * (b % 4096))) (c.from-low.ensures ∙ c.word.ensures) (c.from-high.ensures ∙ c.word-2.ensures)
