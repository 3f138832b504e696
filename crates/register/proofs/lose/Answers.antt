-- The record is one of the register's, whoever the slot time's holder is.
use Rattle.std.proofs.Common.{arith}
use Rattle.book.proofs.Holders.{inside}
use Rattle.register.proofs.lose.Goals as goal

pub offset_bounds-reg-k : goal.offset_bounds-reg-k
offset_bounds-reg-k c = omega (arith, c.record_of-k.ensures, inside c.args.t.handing.old)

pub slice_copy_out-less : goal.slice_copy_out-less
slice_copy_out-less c = omega (arith, c.record_of-k.ensures, inside c.args.t.handing.old)

pub offset_bounds-reg-k-2 : goal.offset_bounds-reg-k-2
offset_bounds-reg-k-2 c = omega (arith, c.record_of-k.ensures, inside c.args.t.handing.old)

pub bounds-reg-k : goal.bounds-reg-k
bounds-reg-k c = omega (arith, c.record_of-k.ensures, inside c.args.t.handing.old)
