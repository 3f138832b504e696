use Rattle.std.proofs.Common.{refl, arith}
use Rattle.stuffing.specs.Taking.{put_in}
use Rattle.stuffing.proofs.Takings.{took-spoilt, took-part, took-whole}
use Rattle.stuffing.proofs.unstuff.take_word.Goals as goal

pub returns-then-v-m-ne0 : goal.returns-then-v-m-ne0
returns-then-v-m-ne0 c = took-spoilt _ _ _ c.requires.0 c.requires.1 c.put_in-m.ensures c.if-v-m-ne0.true refl refl refl refl refl

pub unstuff_word-x-requires : goal.unstuff_word-x-requires
unfolding put_in
unstuff_word-x-requires c = (c.requires.0, omega (arith, c.put_in-m.ensures), c.if-v-m-ne0.false)

pub returns-then-s-x : goal.returns-then-s-x
returns-then-s-x c =
    took-part _ _ _ c.requires.0 c.requires.1 c.put_in-m.ensures c.if-v-m-ne0.false c.unstuff_word-x.ensures _ refl refl c.if-s-x.true refl refl refl

pub returns : goal.returns
returns c =
    took-whole _ _ _ c.requires.0 c.requires.1 c.put_in-m.ensures c.if-v-m-ne0.false c.unstuff_word-x.ensures _ refl refl c.requires.2 c.if-s-x.false refl refl refl c.store_eight.ensures
