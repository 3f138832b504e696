-- Each turn folds one holder more; the answer is the fold over all of them.
use Rattle.std.proofs.Common.{◌≡◌, min, arith, ◌∙◌, ap}
use Rattle.distance.specs.Distance.{top}
use Rattle.walks.specs.Folded.{folded}
use Rattle.walks.proofs.Folds.{folded-none, folded_more}
use Rattle.candidates.specs.Scanning.{level_at, holder_in, slot_level}
use Rattle.candidates.proofs.slot_level.Goals as goal

pub loop-i-init : goal.loop-i-init
loop-i-init c = folded-none top (holder_in c.args.book.now c.args.x) (λ h. level_at c.args.reg.now h c.args.x) (λ low h k i. min low k)

pub loop-i-preserved : goal.loop-i-preserved
loop-i-preserved c = folded_more _ _ _ _ _ _ _ _ _ c.loop-i.invariant c.holder-h.ensures c.level_at-l.ensures c.min-low.ensures

pub returns : goal.returns
unfolding slot_level
returns c =
    let e : c.loop-i.i ≡ c.args.x.times = omega arith in
    c.loop-i.invariant
    ∙ ap (folded top (holder_in c.args.book.now c.args.x) (λ h. level_at c.args.reg.now h c.args.x) (λ low h k i. min low k)) e
