use mathlib.Core.Path.{◌≡◌, ◌∙◌}
use mathlib.Core.Bool.{true, false}
use Rattle.std.proofs.lemmas.Iterator.{first_from_Range}
use Rattle.reporting.specs.Report.{own_at}
use Rattle.reporting.proofs.Looking.{first-is}
use borrow.Author.Rules.{rules}
use Rattle.reporting.proofs.look.first_own.Goals as goal

pub returns : goal.returns
returns c =
    let a = c.args in
    let own = own_at a.book.now a.present in
    c.unwrap_or.ensures
    ∙ first-is a.book.now a.present a.d a.n c.find.result
    (first_from_Range _ _ _ _ (λ k. own k ≡ true) (λ k. own k ≡ false) c.find.ensures.ran (λ k q e. search rules) (λ k q e. search rules))
