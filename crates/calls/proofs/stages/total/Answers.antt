use Rattle.std.proofs.Common.{◌≡◌, ℕ, length, take, ap, ◌∙◌, arith}
use Rattle.std.proofs.Math.Seq.{take-length}
use Rattle.std.specs.List.{sum_by}
use Rattle.ship.specs.declared.Station.{Station}
use Rattle.calls.proofs.Running.{sums-all}
use Rattle.calls.proofs.stages.total.Goals as goal

pub returns : goal.returns
returns c =
    let reg = c.args.reg.now in
    let l = c.loop-s in
    let tally : Station → ℕ = λ s. s.tally in
    let all : l.s-index ≡ length reg = omega (arith, c.loop-s-test.false, l.auto.s-index-end) in
    l.invariant.0 ∙ ap (λ (i : ℕ). sum_by tally (take i reg)) all ∙ ap (sum_by tally) (take-length reg) ∙ sums-all reg
