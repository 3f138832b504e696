-- `candidates::slot::free_upto_four` meets its contract: the chain gives the free slots, at most four of them.
-- Assumes nothing.
use Rattle.std.proofs.Common.{ap, ◌∙◌, ℕ, List, length, take, min, arith, rules, length-take}
use borrow.Author.Tests.{tests}
use Rattle.std.proofs.lemmas.Iterator.{YieldsList-from_range, YieldsList-from_take}
use Rattle.std.proofs.lemmas.Iterator.Consumers.{YieldsList-from_filter, YieldsList-at, count_from_yields_List}
use Rattle.laws.proofs.Those.{count-those}
use Rattle.candidates.specs.Scanning.{free_in, free_upto_four}
use Rattle.candidates.proofs.Listing.{filter-those}
use Rattle.candidates.proofs.slot.free_upto_four.Goals as goal

pub returns : goal.returns
unfolding free_upto_four
returns c =
    let a = c.args in
    count_from_yields_List _ _ c.count.ensures.ran
    (YieldsList-from_take 4 (YieldsList-at c.take.ensures.source
    (YieldsList-from_filter _ (free_in a.book.now a.w) (YieldsList-from_range 0 a.w.width a.w.width c.filter.ensures.source (omega arith))
    c.filter.ensures.closure (λ x b q k. search (rules, tests)))) c.take.ensures.count)
    ∙ ap (λ (l : List ℕ). length (take 4 l)) (filter-those (free_in a.book.now a.w) 0 a.w.width)
    ∙ length-take 4 _
    ∙ ap (min 4) (count-those (free_in a.book.now a.w) a.w.width)
