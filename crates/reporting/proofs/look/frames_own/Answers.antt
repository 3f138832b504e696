use mathlib.Core.Path.{◌≡◌, ◌∙◌}
use mathlib.Core.Bool.{true, false}
use Prim.Native.Nat.{◌+◌}
use Rattle.std.proofs.lemmas.Iterator.{first_from_Range}
use Rattle.limits.specs.Limits.{most_time_out}
use Rattle.reporting.specs.Report.{time_out}
use Rattle.reporting.proofs.Looking.{frame_own, row-is}
use borrow.Author.Rules.{rules}
use Rattle.reporting.proofs.look.frames_own.Goals as goal

pub returns : goal.returns
unfolding time_out
returns c =
    let own = frame_own c.args.book.now c.args.present in
    c.unwrap_or.ensures
    ∙ row-is own 1 most_time_out c.find.result
    (first_from_Range _ _ _ _ (λ k. own (k + 1) ≡ false) (λ k. own (k + 1) ≡ true) c.find.ensures.ran (λ k q e. search rules) (λ k q e. search rules))
