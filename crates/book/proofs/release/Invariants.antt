use Rattle.book.specs.Book.{ours, released, Gives}
use Rattle.book.proofs.release.Given as goal

abbrev pub invariant-loop-h : goal.invariant-loop-h
invariant-loop-h l = Gives (λ b. released ours b l.h-index) l.initial.book l.initial.d l.d l.book
