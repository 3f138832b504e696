use mathlib.Core.Path.{sym, ap, ◌∙◌}
use Prim.Native.Nat.{◌-◌, ◌*◌, ◌/◌}
use native.Mathlib.Omega.{arith}
use lib.ListN.{length}
use Rattle.bits.specs.Bits.{all_bits}
use Rattle.bits.proofs.Bits.{blocks-yes, blocks-no}
use Rattle.bits.proofs.are_bits.Goals as goal

pub returns-then-all_small : goal.returns-then-all_small
returns-then-all_small c =
    let l = c.args.bits.now in
    let last = c.in-Some.ensures.cases.1 in
    c.all_small-then-all_small.ensures ∙ ap all_bits last.same
    ∙ blocks-yes (length l / 32 * 32) (length l - 32) l (omega arith) (sym c.all_small-2.ensures ∙ c.if-all_small.true)

pub returns-else-all_small : goal.returns-else-all_small
returns-else-all_small c =
    let l = c.args.bits.now in
    c.if-all_small.false ∙ blocks-no (length l / 32 * 32) l (sym c.all_small-2.ensures ∙ c.if-all_small.false)
