-- `text::put_row` meets its contract. The invariant: the word and the numbers so far stand at the start of out.
-- Assumes nothing.
use Rattle.text.proofs.Rows.{Written}
use Rattle.text.proofs.put_row.Given as goal

abbrev pub invariant-loop-n : goal.invariant-loop-n
invariant-loop-n l = Written l.word l.numbers l.fn.out l.n-index l.out l.at
