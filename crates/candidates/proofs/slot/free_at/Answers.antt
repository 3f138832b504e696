-- `candidates::slot::free_at` meets its contract: the loop has met only times that are nobody's.
-- Assumes nothing.
use mathlib.Core.Path.{sym, ◌∙◌}
use native.Mathlib.Omega.{arith}
use Rattle.candidates.proofs.Slots.{every-none, a-frame-on, free-earlier, free-held, free-turn, free_all}
use Rattle.candidates.proofs.slot.free_at.Goals as goal

pub returns-then-own_earlier : goal.returns-then-own_earlier
returns-then-own_earlier c = free-earlier _ _ _ _ (sym c.own_earlier.ensures ∙ c.if-own_earlier.true)

pub loop-i-init : goal.loop-i-init
loop-i-init c = (omega (arith, c.place-p.ensures), every-none _)

pub returns-then-book-p-ne-NONE : goal.returns-then-book-p-ne-NONE
returns-then-book-p-ne-NONE c =
    let l = c.loop-i in
    free-held _ _ _ _ (sym c.own_earlier.ensures ∙ c.if-own_earlier.false) l._i _ l.invariant.0 (omega (arith, c.loop-i-test.true)) c.if-book-p-ne-NONE.true

pub loop-i-preserved : goal.loop-i-preserved
loop-i-preserved c =
    let l = c.loop-i in
    let a = c.args in
    (c.frames_on-p.ensures ∙ a-frame-on a.present a.at l._i l.p l.invariant.0, free-turn _ _ _ l._i l.p l.invariant.0 l.invariant.1 c.if-book-p-ne-NONE.false)

pub returns : goal.returns
returns c =
    let l = c.loop-i in
    free_all _ _ _ _ (sym c.own_earlier.ensures ∙ c.if-own_earlier.false) l._i (omega (arith, c.loop-i-test.false)) (omega (arith, c.loop-i-test.false)) l.invariant.1
