use Rattle.std.proofs.Common.{ap, ◌∙◌}
use Rattle.std.specs.Prelude.{Err}
use Rattle.hearing.specs.Booking.{noted_of}
use Rattle.hearing.proofs.Hears.{hears-is, stored-fits, heard-all, freed-fits}
use Rattle.hearing.proofs.hear.Goals as goal

pub returns-in-Err : goal.returns-in-Err
returns-in-Err c =
    let a = c.args in
    let why = hears-is a.reg.now a.book.now a.q.watch a.q.telling c.requires.0 (Err c.in-Err.r) (c.in-Err.ensures ∙ ap (noted_of a.q) c.find.ensures.value) in
    record { answers = λ i. (why i).answer; leaves = λ i. (why i).reg; writes = λ i. (why i).book }

pub free_times-freed-requires : goal.free_times-freed-requires
free_times-freed-requires c =
    let a = c.args in
    let noted = c.in-Ok.ensures ∙ ap (noted_of a.q) c.find.ensures.value in
    stored-fits a.reg.now a.book.now a.q.watch a.q.telling c.requires.0 c.in-Ok.b noted _ c.store.ensures c.requires.1

pub mark_times-requires : goal.mark_times-requires
mark_times-requires c =
    let a = c.args in
    let noted = c.in-Ok.ensures ∙ ap (noted_of a.q) c.find.ensures.value in
    freed-fits c.in-Ok.b _ _ _ _ _ (stored-fits a.reg.now a.book.now a.q.watch a.q.telling c.requires.0 c.in-Ok.b noted _ c.store.ensures c.requires.1)
    c.free_times-freed.ensures

pub returns : goal.returns
returns c =
    let a = c.args in
    let noted = c.in-Ok.ensures ∙ ap (noted_of a.q) c.find.ensures.value in
    heard-all a.reg.now a.book.now a.q.watch a.q.telling c.requires.0 c.in-Ok.b noted _ c.store.ensures _ _ _ c.free_times-freed.ensures _ _ _ c.mark_times.ensures
