use Rattle.std.proofs.Common.{sym, subst}
use Rattle.walks.specs.Out.{Ends}
use Rattle.calls.specs.declared.told.Case.{Case}
use Rattle.calls.specs.Stages.{Fit, carried_out}
use Rattle.calls.proofs.Doing.{called_is, told-fits}
use Rattle.calls.proofs.Joining.{ends_at}
use Rattle.calls.proofs.call.Goals as goal

pub carry-requires : goal.carry-requires
carry-requires c =
    let a = c.args in
    subst (Fit a.reg.now a.book.now) (sym c.told-case.ensures) (told-fits a.reg.now a.book.now a.bytes.now a.x)

pub returns : goal.returns
returns c =
    let a = c.args in
    let carried = subst (λ (x : Case). Ends (carried_out x a.reg.now a.book.now) c.carry.result c.carry.new.reg c.carry.new.book) c.told-case.ensures c.carry.ensures in
    ends_at (sym (called_is a.reg.now a.book.now a.bytes.now a.x)) carried
