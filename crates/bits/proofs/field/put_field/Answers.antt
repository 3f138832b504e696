use Rattle.std.proofs.Common.{rules}
use native.Mathlib.Omega.{arith}
use lib.ListN.{length}
use Rattle.bits.proofs.Words.{Holds, new-fits, put_is}
use Rattle.bits.proofs.field.put_field.Goals as goal

pub overflow_add-all : goal.overflow_add-all
overflow_add-all c =
    let here : Holds (length c.args.out.now) c.window-s.result c.args.at c.args.width = omega arith in
    record { fits = new-fits here _ _ (omega arith) c.requires.5 }

pub returns : goal.returns
returns c =
    let here : Holds (length c.args.out.now) c.window-s.result c.args.at c.args.width = omega arith in
    put_is _ (λ i. search rules) _ _ _ here _ c.requires.5 c.word_at-all.ensures c.put_word.ensures (λ i. (c.type_inv.out i).fits)
