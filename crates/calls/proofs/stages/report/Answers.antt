use Rattle.calls.proofs.Running.{heard-few}
use Rattle.calls.proofs.Joining.{report-range, reported-is}
use Rattle.calls.proofs.stages.report.Goals as goal

pub report-told-requires : goal.report-told-requires
report-told-requires c = let a = c.args in
    (c.requires.0.size, heard-few a.reg.now c.heard.result c.requires.0.register c.heard.ensures, report-range a.t a.watch.channel.plan a.reg.now a.book.now c.requires)

pub returns : goal.returns
returns c = let a = c.args in
    reported-is a.watch a.t a.reg.now a.book.now c.heard.result c.heard.ensures c.report-told.result c.report-told.ensures c.map.result c.map.ensures.cases
