use Rattle.listing.proofs.Said.{pairs-past, pairs-in}
use Rattle.listing.proofs.getting.pairs.Goals as goal

pub returns-then-t-gt7 : goal.returns-then-t-gt7
returns-then-t-gt7 c = pairs-past _ c.if-t-gt7.true

pub returns : goal.returns
returns c = pairs-in _ c.if-t-gt7.false
