use Rattle.std.proofs.Common.{◌≡◌, rules, ap, ◌∙◌, ℕ}
use Rattle.std.specs.Prelude.{Option}
use Rattle.std.specs.Option.{unwrap_or}
use Rattle.limits.specs.Limits.{records}
use Rattle.hearing.proofs.Finding.{record_found}
use lib.Dec.{eqb}
use Rattle.std.specs.List.{position}
use Rattle.std.specs.Option.{option_or}
use Rattle.ship.specs.declared.Station.{Station}
use Rattle.hearing.proofs.find.Goals as goal

pub returns-clause-value : goal.returns-clause-value
returns-clause-value c =
    let reg = c.args.reg.now in
    let found : c.or_else.result ≡ option_or (position (λ (s : Station). eqb s.source c.args.q.telling.source) reg) (position (λ (s : Station). eqb s.tally 0) reg) = search rules in
    ap (λ (r : Option ℕ). unwrap_or r records) found ∙ record_found reg c.args.q.telling.source c.requires
