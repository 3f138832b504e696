-- `text::put_row` meets its contract. The invariant: the word and the numbers so far stand at the start of out.
-- Assumes nothing.
use native.Mathlib.Omega.{arith}
use lib.ListN.{length-take, length-drop}
use Rattle.text.proofs.Rows.{room_for, number_short, turn}
use Rattle.text.proofs.put_row.Goals as goal

pub slice_bounds-put_number-count : goal.slice_bounds-put_number-count
slice_bounds-put_number-count c = omega (arith, room_for c.loop-n.invariant (omega arith))

pub slice_bounds-put_number-start : goal.slice_bounds-put_number-start
slice_bounds-put_number-start c = omega (arith, room_for c.loop-n.invariant (omega arith))

pub put_number-at-requires : goal.put_number-at-requires
put_number-at-requires c = simp (length-take, length-drop) (omega (arith, room_for c.loop-n.invariant (omega arith)))

pub overflow_add-at : goal.overflow_add-at
overflow_add-at c = record { fits = omega (arith, room_for c.loop-n.invariant (omega arith), number_short _ c.put_number-at.ensures.0) }

pub loop-n-preserved : goal.loop-n-preserved
loop-n-preserved c = turn c.loop-n.invariant _ _ (omega arith) c.put_number-at.ensures
