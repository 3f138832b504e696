use native.Mathlib.Omega.{arith}
use Rattle.book.proofs.Following.{mark-left, mark-put}
use Rattle.book.proofs.mark.Goals as goal

pub returns-then-book-at-eq-OWN : goal.returns-then-book-at-eq-OWN
returns-then-book-at-eq-OWN c = mark-left _ _ _ _ _ c.left_alone.ensures c.if-book-at-eq-OWN.true

pub returns : goal.returns
returns c = let put = c.put.ensures in (mark-put _ _ _ _ _ put.0 c.if-book-at-eq-OWN.false, omega (arith, put.2))
