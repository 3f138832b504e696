use Rattle.std.proofs.lemmas.List.{set-get_or}
use mathlib.Core.Path.{◌∙◌}
use Rattle.laws.proofs.Upto.{upto-none, upto-more}
use Rattle.book.proofs.Steps.{free-held, free_other}
use Rattle.book.proofs.Following.{gives_up}
use Rattle.book.proofs.release.Goals.{then-h-eq-OWN, else-h-eq-OWN}
use Rattle.book.proofs.release.Goals as goal

pub loop-h-init : goal.loop-h-init
loop-h-init c t many = upto-none _ _

pub loop-h-preserved : goal.loop-h-preserved
loop-h-preserved c =
    let l = c.loop-h in
    elim c.if-h-eq-OWN.branch [
      | then-h-eq-OWN w ↦
          let ours = w.if-h-eq-OWN.true in
          rw (w.book-is, w.d-is) (λ t many. upto-more _ _ l.h-index _ _ (l.invariant t many)
          (gives_up l.book l.d _ l.h-index ours w.handed-d.ensures t many ∙ free-held _ _ _ ours))
      | else-h-eq-OWN w ↦
          rw (w.book-is ∙ set-get_or _ _ _, w.d-is) (λ t many. upto-more _ _ l.h-index _ _ (l.invariant t many) (free_other _ _ _ w.if-h-eq-OWN.false))
    ]
