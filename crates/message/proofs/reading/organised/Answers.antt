use borrow.Author.Tests.{eq-eqb, ne_eqb}
use Rattle.message.specs.Sheet.{one_or_two}
use Rattle.message.proofs.reading.organised.Goals as goal

pub returns-then-id-eq2 : goal.returns-then-id-eq2
unfolding one_or_two
returns-then-id-eq2 c = rw (c.organised_of-s.ensures, eq-eqb _ _ c.if-id-eq2.true)

pub returns : goal.returns
unfolding one_or_two
returns c = rw (c.organised_of-s.ensures, ne_eqb _ _ c.if-id-eq2.false)
