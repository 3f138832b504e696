use native.Mathlib.Omega.{arith}
use Rattle.book.proofs.Following.{free-left, free-put}
use Rattle.book.proofs.free.Goals as goal

pub returns-then-book-at : goal.returns-then-book-at
returns-then-book-at c = let put = c.put.ensures in (free-put _ _ _ _ _ put.0 c.if-book-at.true, omega (arith, put.2))

pub returns : goal.returns
returns c = free-left _ _ _ _ _ c.left_alone.ensures c.if-book-at.false
