use Rattle.listing.proofs.Said.{said-offset, said-time, said-slot, said-stations}
use Rattle.listing.proofs.getting.sub_said.Goals as goal

pub returns-then-t-eq0 : goal.returns-then-t-eq0
returns-then-t-eq0 c = said-offset _ _ _ _ c.plain_at-number.ensures c.if-t-eq0.true

pub returns-then-t-eq1 : goal.returns-then-t-eq1
returns-then-t-eq1 c =
    said-time _ _ _ _ c.plain_at-number.ensures c.if-t-eq0.false _ _ c.if-t-eq1.true c.plain_at.ensures c.plain_at-then-t-eq1.ensures

pub returns-then-t-eq0-2 : goal.returns-then-t-eq0-2
returns-then-t-eq0-2 c =
    said-slot _ _ _ _ c.plain_at-number.ensures c.if-t-eq0.false c.if-t-eq1.false _ c.pairs.ensures c.if-t-eq0-2.true

pub returns : goal.returns
returns c =
    said-stations _ _ _ _ c.plain_at-number.ensures c.if-t-eq0.false c.if-t-eq1.false _ c.pairs.ensures c.if-t-eq0-2.false
