use mathlib.Core.Path.{ap, ◌∙◌}
use Prim.Native.Nat.{ℕ}
use mathlib.Core.List.{List}
use Rattle.bits.specs.Field.{word_of}
use Rattle.bits.proofs.Spreading.{word-there}
use Rattle.bits.proofs.field.word_at.Goals as goal

pub returns : goal.returns
unfolding word_of
returns c = c.from_be_bytes.ensures ∙ ap (λ (l : List ℕ). word_of l 0) c.chunk_at.ensures ∙ word-there c.args.bytes.now c.args.s
