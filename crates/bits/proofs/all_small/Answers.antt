use Rattle.std.proofs.Common.{rules, ◌≡◌, ℕ, max, leb, fold, ap, ◌∙◌}
use Rattle.bits.proofs.Bits.{largest-bits}
use Rattle.bits.proofs.all_small.Goals as goal

pub returns : goal.returns
returns c =
    let e : c.fold.result ≡ fold max 0 c.args.bits.now = search rules in
    ap (λ (m : ℕ). leb m 1) e ∙ largest-bits 0 c.args.bits.now
