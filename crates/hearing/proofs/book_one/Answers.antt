use Rattle.laws.specs.Counting.{one}
use Rattle.hearing.proofs.Turning.{books-one}
use Rattle.hearing.proofs.book_one.Goals as goal

pub returns : goal.returns
unfolding one
returns c =
    let h = c.hand-handing.ensures in
    books-one c.args.kind _ _ _ _ _ _ c.place-p.ensures c.holder_of-h.ensures.value c.holder_of-h.ensures.few _ h.1 h.0 _ c.from.ensures _ c.next_from-at.ensures
