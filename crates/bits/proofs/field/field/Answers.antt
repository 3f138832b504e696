use native.Mathlib.Nat.{lt_of_lt_of_le}
use native.Mathlib.Omega.{arith}
use lib.ListN.{length}
use lib.Pow.{pow_mono}
use Rattle.bits.proofs.Fields.{field_bound}
use Rattle.bits.proofs.Words.{Holds, field_is}
use Rattle.bits.proofs.field.field.Goals as goal
use Rattle.bits.proofs.field.field.Goals.{After-word_at}

here : (c : After-word_at) → Holds (length c.args.bytes.now) c.window-s.result c.args.at c.args.width
here c = omega arith

pub returns : goal.returns
returns c = field_is _ (λ i. (c.type_inv.bytes i).fits) _ _ _ (here c) c.word_at.ensures

pub overflow_cast-result : goal.overflow_cast-result
overflow_cast-result c = record { fits = rw (returns c) (lt_of_lt_of_le (field_bound _ _ _) (pow_mono c.requires.2)) }
