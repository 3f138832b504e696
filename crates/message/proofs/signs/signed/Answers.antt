-- `message::signs::signed` meets its contract: each need by its lemma of proofs/Complement.antt.
use Rattle.message.proofs.Complement.{low-is, high-returns}
use Rattle.message.proofs.signs.signed.Goals as goal

pub returns-then-v-half : goal.returns-then-v-half
returns-then-v-half c = low-is _ _ c.requires c.if-v-half.true

pub returns : goal.returns
returns c = high-returns _ _ c.requires c.if-v-half.false
