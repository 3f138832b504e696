-- Each turn folds one slot more; the answer is the fold over all of them.
use Rattle.std.proofs.Common.{ℕ, ◌≡◌, ◌<◌, arith, sym, subst, ◌∙◌, ap}
use Rattle.limits.specs.Limits.{slot_times}
use Rattle.walks.specs.Folded.{folded}
use Rattle.walks.proofs.Folds.{folded-none, folded_more}
use Rattle.candidates.specs.declared.slot.Slot.{Slot}
use Rattle.candidates.specs.Rounds.{better_of}
use Rattle.candidates.specs.Scanning.{worth_by, slot_of, slot_level, none_yet, bound_of}
use Rattle.candidates.proofs.Sameness.{slot-times, slot-from}
use Rattle.choosing.specs.Scanning.{turns_of, scanned}
use Rattle.choosing.proofs.Loops.{turns-few}
use Rattle.choosing.proofs.scan.Goals as goal

pub loop-i-init : goal.loop-i-init
loop-i-init c =
    c.none_yet-best.ensures
    ∙ folded-none none_yet (λ b. slot_of c.args.book.now c.args.q.window c.args.q.watch.ship (bound_of b)) (slot_level c.args.reg.now c.args.book.now)
    (λ b x low i. better_of b (worth_by x.earlier low) i)

pub slot_of-x-requires : goal.slot_of-x-requires
slot_of-x-requires c =
    let m = c.requires (omega (arith, c.turns-i-end.ensures, c.loop-i-test.true)) in
    (m.1.0, (m.1.1.0, (m.1.1.1.0, omega (arith, c.loop-i-test.true, c.turns-i-end.ensures, turns-few c.args.q, m.1.1.1.1))))

pub slot_level-low-requires : goal.slot_level-low-requires
slot_level-low-requires c =
    let m = c.requires (omega (arith, c.turns-i-end.ensures, c.loop-i-test.true)) in (
      m.0,
      (
        m.1.0,
        (
          subst (λ (x : Slot). x.from < slot_times) (sym c.slot_of-x.ensures) (slot-from c.args.book.now c.args.q.window c.args.q.watch.ship _ _),
          subst (λ (x : Slot). x.times < 9) (sym c.slot_of-x.ensures) (slot-times c.args.book.now c.args.q.window c.args.q.watch.ship _ _ m.1.1.1.0),
        ),
      ),
    )

pub better-best-requires : goal.better-best-requires
better-best-requires c =
    let m = c.requires (omega (arith, c.turns-i-end.ensures, c.loop-i-test.true)) in
    omega (arith, c.loop-i-test.true, c.turns-i-end.ensures, turns-few c.args.q, m.1.1.1.1)

pub loop-i-preserved : goal.loop-i-preserved
loop-i-preserved c =
    let l = c.loop-i in
    let x = c.slot_of-x in
    folded_more _ _ _ _ _ _ _ _ _ l.invariant
    (x.ensures ∙ ap (λ (b : ℕ). slot_of c.args.book.now c.args.q.window c.args.q.watch.ship b l.i) c.bound.ensures)
    c.slot_level-low.ensures (c.better-best.ensures ∙ ap (λ (w : ℕ). better_of l.best w l.i) c.worth_by.ensures)

pub returns : goal.returns
unfolding scanned
returns c =
    let e : c.loop-i.i ≡ turns_of c.args.q = omega (arith, c.turns-i-end.ensures, c.loop-i-test.false) in
    c.loop-i.invariant
    ∙ ap (folded none_yet (λ b. slot_of c.args.book.now c.args.q.window c.args.q.watch.ship (bound_of b)) (slot_level c.args.reg.now c.args.book.now)
    (λ b x low i. better_of b (worth_by x.earlier low) i)) e
