-- `candidates::list_candidates` meets its contract: the loop has listed the candidates before.
-- Assumes nothing.
use Rattle.std.proofs.Common.{◌∙◌, ap, arith, rules}
use Rattle.laws.specs.Counting.{one}
use Rattle.candidates.proofs.Listing.{bit-one, listed-none, listed_more, bit_le}
use Rattle.candidates.proofs.list_candidates.Goals as goal

pub loop-i-init : goal.loop-i-init
loop-i-init c = listed-none _ _ (search rules)

pub overflow_add-n : goal.overflow_add-n
overflow_add-n c = omega (arith, c.loop-i.invariant.few, bit_le _ _ (c.from-n.ensures ∙ bit-one _ ∙ ap one c.is_candidate.ensures))

pub loop-i-preserved : goal.loop-i-preserved
loop-i-preserved c = listed_more c.loop-i.invariant (omega arith) _ (c.from-n.ensures ∙ bit-one _ ∙ ap one c.is_candidate.ensures)
