use mathlib.Core.Path.{sym, ◌∙◌}
use native.Mathlib.Omega.{arith}
use Rattle.announcing.proofs.Finding.{frames-none, frames-more, frames-all, row-none}
use Rattle.announcing.proofs.times.next_in.Goals as goal

pub returns-then-is_empty : goal.returns-then-is_empty
returns-then-is_empty c =
    let a = c.args in
    row-none a.r a.d (sym c.is_empty.ensures ∙ c.if-is_empty.true) c.requires.1

pub loop-f-init : goal.loop-f-init
loop-f-init c = frames-none c.args.r c.args.d c.requires.1

pub loop-f-preserved : goal.loop-f-preserved
loop-f-preserved c =
    let a = c.args in
    let l = c.loop-f in
    rw c.sooner-t.ensures (frames-more a.r a.d l.f _ _ l.invariant c.next_run.ensures)

pub returns : goal.returns
returns c =
    let a = c.args in
    let l = c.loop-f in
    frames-all a.r a.d l.f l.t (omega (arith, c.from-f-end.ensures)) l.invariant
