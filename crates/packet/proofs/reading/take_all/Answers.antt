use mathlib.Core.Path.{◌∙◌}
use native.Mathlib.Omega.{arith}
use Rattle.bits.proofs.Bits.{value-bound}
use Rattle.packet.proofs.Taken.{word-are, word-room, onward-next}
use Rattle.packet.proofs.reading.take_all.Goals as goal

pub word_at-requires : goal.word_at-requires
word_at-requires c =
    let l = c.loop-word.invariant in
    let n = c.in-Some.ensures.steps in
    let full = n.1.1 ∙ l.1 in
    (word-are l.0 _ _ n.1.0 full, omega (arith, full))

pub take_word-s-requires : goal.take_word-s-requires
take_word-s-requires c =
    let l = c.loop-word.invariant in
    let n = c.in-Some.ensures.steps in
    let full = n.1.1 ∙ l.1 in
    (omega (arith, c.word_at.ensures, value-bound 32 c.in-Some.word.now (word-are l.0 _ _ n.1.0 full)), l.0.took.sound, word-room l.0 _ _ n.1.0 full c.requires.3)

pub loop-word-preserved : goal.loop-word-preserved
loop-word-preserved c =
    let l = c.loop-word.invariant in
    let n = c.in-Some.ensures.steps in
    (onward-next l.0 _ _ n.1.0 (n.1.1 ∙ l.1) c.word_at.ensures c.take_word-s.ensures c.take_word-s.auto.raw, n.0 ∙ l.1)
