-- The record is one of the register's, whoever the slot time's holder is.
use Rattle.std.proofs.Common.{arith}
use Rattle.book.proofs.Holders.{inside}
use Rattle.register.proofs.win.Goals as goal

pub offset_bounds-reg-k : goal.offset_bounds-reg-k
offset_bounds-reg-k c = omega (arith, c.record_of-k.ensures, inside c.args.t.handing.new)

pub slice_copy_out-more : goal.slice_copy_out-more
slice_copy_out-more c = omega (arith, c.record_of-k.ensures, inside c.args.t.handing.new)

pub offset_bounds-reg-k-2 : goal.offset_bounds-reg-k-2
offset_bounds-reg-k-2 c = omega (arith, c.record_of-k.ensures, inside c.args.t.handing.new)

pub bounds-reg-k : goal.bounds-reg-k
bounds-reg-k c = omega (arith, c.record_of-k.ensures, inside c.args.t.handing.new)
