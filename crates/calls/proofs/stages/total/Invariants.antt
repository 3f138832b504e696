use Rattle.std.proofs.Common.{◌≡◌, ◌*◌, ◌≤◌, take}
use Rattle.std.specs.List.{sum_by}
use Rattle.ship.specs.declared.Station.{Station}
use Rattle.calls.proofs.stages.total.Given as goal

-- the tallies of so many records, each of which has 16 bits
abbrev pub invariant-loop-s : goal.invariant-loop-s
invariant-loop-s l = (l.n ≡ sum_by (λ (s : Station). s.tally) (take l.s-index l.reg)) × (l.n ≤ 65535 * l.s-index)
