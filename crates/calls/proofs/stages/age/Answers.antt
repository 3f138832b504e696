use Rattle.std.proofs.Common.{◌-◌, ◌∙◌, ap, arith, false, pos, get_or}
use Rattle.ship.specs.declared.Station.{Station}
use Rattle.register.specs.State.{with_hold}
use Rattle.walks.proofs.Changes.{one_more, all}
use Rattle.calls.proofs.stages.age.Goals as goal

pub loop-s-preserved : goal.loop-s-preserved
loop-s-preserved c =
    let l = c.loop-s in
    let d : Station = record { source = 0; base = false; latitude = pos 0; longitude = pos 0; tally = 0; hold = 0 } in
    one_more (λ (s : Station). with_hold s (s.hold - c.args.passes)) l.s-index c.args.reg.now l.reg d _ l.invariant
    (ap (with_hold (get_or l.reg l.s-index d)) c.saturating_sub-s.ensures)

pub returns : goal.returns
returns c =
    let l = c.loop-s in
    l.invariant ∙ all (λ (s : Station). with_hold s (s.hold - c.args.passes)) l.s-index c.args.reg.now (omega (arith, c.loop-s-test.false, l.auto.reg))
