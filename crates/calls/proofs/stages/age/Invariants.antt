use Rattle.std.proofs.Common.{◌≡◌, ◌-◌}
use Rattle.ship.specs.declared.Station.{Station}
use Rattle.register.specs.State.{with_hold}
use Rattle.walks.proofs.Changes.{upto}
use Rattle.calls.proofs.stages.age.Given as goal

-- so many records are older
abbrev pub invariant-loop-s : goal.invariant-loop-s
invariant-loop-s l = l.reg ≡ upto (λ (s : Station). with_hold s (s.hold - l.passes)) l.s-index l.fn.reg
