use Rattle.std.proofs.Common.{rules}
use Rattle.std.proofs.lemmas.Iterator.{first_from_Range}
use Rattle.plan.specs.Plan.{InWindow}
use Rattle.plan.proofs.Windows.{told}
use Rattle.plan.proofs.Plan.window_of.Goals as goal

-- each window before the one found was tried
pub returns : goal.returns
returns c =
    let p = c.args.self in
    let n = c.args.slot in
    told p n c.find.result
    (first_from_Range _ _ _ _ (λ k. InWindow p k n) (λ k. InWindow p k n → ⊥) c.find.ensures.ran
    (λ k q e. search rules)
    (λ k q e. search rules))
