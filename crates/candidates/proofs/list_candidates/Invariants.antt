-- `candidates::list_candidates` meets its contract: the loop has listed the candidates before.
-- Assumes nothing.
use Rattle.candidates.specs.Scanning.{candidate_by}
use Rattle.candidates.proofs.Listing.{Listed}
use Rattle.candidates.proofs.list_candidates.Given as goal

abbrev pub invariant-loop-i : goal.invariant-loop-i
invariant-loop-i l = Listed (candidate_by l.book l.w l.free l.b) l.out l.n l.i
