use Rattle.register.proofs.run.Given as goal

-- it stands where it may
abbrev pub invariant-loop-book : goal.invariant-loop-book
invariant-loop-book g l = g.R.Turns.stands l.r l.fn.reg l.fn.book l.turn l.reg l.book

abbrev pub decreases-loop-book : goal.decreases-loop-book
decreases-loop-book g l = g.R.Turns.left l.turn
