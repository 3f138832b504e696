-- `candidates::draw` meets its contract: what the first places of the list have is drawn from.
-- Assumes nothing.
use native.Mathlib.Omega.{arith}
use Rattle.candidates.specs.Scanning.{drawn}
use Rattle.candidates.proofs.Listing.{chosen_none, chosen-back, chosen_at}
use Rattle.candidates.proofs.draw.Goals as goal

pub returns-then-n-eq0 : goal.returns-then-n-eq0
unfolding drawn
returns-then-n-eq0 c =
    let l = c.list_candidates-n in
    chosen_none _ _ _ _ (omega (arith, l.ensures.0)) l.ensures.1 _ _ c.if-n-eq0.true

pub returns-then-d-n : goal.returns-then-d-n
unfolding drawn
returns-then-d-n c =
    let l = c.list_candidates-n in
    chosen_at _ _ _ _ (omega (arith, l.ensures.0)) l.ensures.1 _ _ c.if-n-eq0.false c.if-d-n.true

pub returns : goal.returns
unfolding drawn
returns c =
    let l = c.list_candidates-n in
    chosen-back _ _ _ _ (omega (arith, l.ensures.0)) l.ensures.1 _ _ c.if-n-eq0.false c.if-d-n.false
