use Rattle.std.proofs.Common.{ℕ, ◌+◌, ◌-◌, ◌*◌, ◌/◌, ◌%◌, ◌^◌, ap}
use lib.Bits.{bit_and}
use Rattle.stuffing.specs.Filling.{zero_put}
use Rattle.stuffing.specs.declared.marks.Marked.{Marked}
use Rattle.stuffing.proofs.stuff.put_zero.Goals as goal

abbrev made : Marked → ℕ → Marked
made s low = record {
  bits = s.bits + (s.bits - bit_and s.bits low);
  marks = (s.marks - bit_and s.marks (low * 2 ^ 4 % 2 ^ 64 + 15)) * 2;
  done = s.done + (1 - low / 0x8000000000000000);
}

pub returns : goal.returns
unfolding zero_put
returns c =
    let a = c.args.s in
    ap (λ (low : ℕ). made a low) c.up_to_lowest-low.ensures
