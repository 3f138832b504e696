use Rattle.calls.proofs.Joining.{ask-fits, query-fits}
use Rattle.calls.proofs.stages.draw_slot.Goals as goal

pub ask-q-requires : goal.ask-q-requires
ask-q-requires c = let a = c.args in ask-fits a.reg.now a.book.now a.watch a.a c.requires

pub scan-best-requires : goal.scan-best-requires
scan-best-requires c = let a = c.args in
    λ l. (c.requires.0.register, (c.requires.0.size, query-fits a.reg.now a.book.now a.watch a.a c.requires c.ask-q.result c.ask-q.ensures))

pub judge-requires : goal.judge-requires
judge-requires c = let a = c.args in
    λ l. (c.requires.0.size, query-fits a.reg.now a.book.now a.watch a.a c.requires c.ask-q.result c.ask-q.ensures)

pub outcome-requires : goal.outcome-requires
outcome-requires c = let a = c.args in
    (query-fits a.reg.now a.book.now a.watch a.a c.requires c.ask-q.result c.ask-q.ensures).1.0
