-- The record is one of the register's, whoever the holder is.
use Rattle.std.proofs.Common.{arith}
use Rattle.book.proofs.Holders.{inside}
use Rattle.candidates.proofs.level_at.Goals as goal

pub offset_bounds-reg-k : goal.offset_bounds-reg-k
offset_bounds-reg-k c = omega (arith, c.record_of-k.ensures, inside c.args.h)

pub bounds-reg-k : goal.bounds-reg-k
bounds-reg-k c = omega (arith, c.record_of-k.ensures, inside c.args.h)
