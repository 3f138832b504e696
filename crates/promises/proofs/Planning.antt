-- A call that sets a plan: it is in its range, and the book has no own mark left.
-- Assumes nothing.
use mathlib.Core.Path.{◌∙◌}
use Rattle.laws.specs.Exactly.{AllHold}
use Rattle.limits.specs.Limits.{slot_times}
use Rattle.plan.specs.declared.Plan.{Plan}
use Rattle.book.specs.Book.{Book, ours, released}
use Rattle.book.proofs.Plans.{in-range}
use Rattle.book.proofs.Lengths.{released-sizes}
use Rattle.register.specs.State.{State, book_in}
use Rattle.register.proofs.Settling.{book_in-settle}
use Rattle.register.proofs.Again.{all_kinds}
use Rattle.calls.specs.Calls.{planned, plan_tests}
use Rattle.promises.proofs.Moves.{Fine, PlannedBy}
use Rattle.promises.proofs.Written.{written-sources, written-present}

pub plan-moves : (s : State) (p : Plan) → Fine s → AllHold (plan_tests s p) → PlannedBy s (planned s p)
unfolding planned
plan-moves s p f held =
    let b : Book = released ours (book_in s) slot_times in
    record {
      ranged = in-range p held.1;
      book = book_in-settle s b f.register ((released-sizes ours (book_in s) slot_times).1 ∙ all_kinds s f.register);
      sources = written-sources b s;
      present = written-present b s;
    }
