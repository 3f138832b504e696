-- `choosing::window::any_own` meets its contract: the chain asks each slot whether it is ours.
-- Assumes nothing.
use Rattle.std.proofs.Common.{ℕ, ◌≡◌, ◌+◌, get_or, refl, arith, rules}
use borrow.Author.Tests.{tests}
use Rattle.std.proofs.lemmas.Iterator.{YieldsList-from_range, cases_from_any}
use Rattle.book.specs.Book.{ours, place}
use Rattle.candidates.specs.Slot.{is_own, holder_at}
use Rattle.candidates.proofs.Listing.{some-told}
use Rattle.choosing.specs.Choosing.{any_own}
use Rattle.choosing.proofs.Meaning.{own-there, other-there}
use Rattle.choosing.proofs.window.any_own.Goals as goal

pub returns : goal.returns
unfolding any_own
returns c =
    let v = c.args.v in
    let held : ℕ → ℕ = λ i. get_or c.args.book.now (place v.present (v.first + i)) 0 in
    some-told (λ i. is_own (holder_at c.args.book.now v.present (v.first + i))) v.width (λ i. held i ≡ ours) (λ i. held i ≡ ours → ⊥)
    (λ i e. own-there _ _ _ _ refl e) (λ i n. other-there _ _ _ _ refl n) c.any.result
    (cases_from_any _ _ _ (λ i. held i ≡ ours) (λ i. held i ≡ ours → ⊥) c.any.ensures.ran (YieldsList-from_range 0 v.width v.width refl (omega arith))
    (λ x q k. search (rules, tests)) (λ x q k. search (rules, tests)))
