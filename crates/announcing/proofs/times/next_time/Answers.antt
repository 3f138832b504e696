use mathlib.Core.Path.{sym, ◌∙◌}
use native.Mathlib.Omega.{arith}
use Rattle.announcing.specs.Announce.{unused}
use Rattle.announcing.proofs.Ends.{each-inside}
use Rattle.announcing.proofs.Finding.{kind-true, kind-false, rows_none, rows_more, rows_over, rows_all}
use Rattle.announcing.proofs.times.next_time.Goals as goal
use Rattle.announcing.proofs.times.next_time.Goals.{then-eq, else-eq}

pub loop-r-init : goal.loop-r-init
loop-r-init c =
    let a = c.args in
    rows_none a.kind a.rows unused a.d c.requires.1

pub next_in-requires : goal.next_in-requires
next_in-requires c =
    let s = c.requires in
    (each-inside _ c.args.rows s.0 c.loop-r.r-index (omega arith), s.1)

pub loop-r-preserved : goal.loop-r-preserved
loop-r-preserved c =
    let a = c.args in
    let i = c.loop-r.r-index in
    elim c.if-eq.branch [
      | then-eq w ↦
          rw (w.t-is, w.sooner-t.ensures)
          (rows_more a.kind a.rows _ a.d i (omega arith) (kind-true _ _ (sym c.eq.ensures ∙ w.if-eq.true)) _ _ c.loop-r.invariant w.next_in.ensures)
      | else-eq w ↦
          rw w.t-is (rows_over a.kind a.rows _ a.d i (omega arith) (kind-false _ _ (sym c.eq.ensures ∙ w.if-eq.false)) _ c.loop-r.invariant)
    ]

pub returns : goal.returns
returns c =
    let a = c.args in
    rows_all a.kind a.rows unused a.d c.loop-r.r-index _ (omega arith) c.loop-r.invariant
