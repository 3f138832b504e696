use Rattle.std.proofs.Common.{◌≡◌, min}
use Rattle.distance.specs.Distance.{top}
use Rattle.walks.specs.Folded.{folded}
use Rattle.candidates.specs.Scanning.{level_at, holder_in}
use Rattle.candidates.proofs.slot_level.Given as goal

-- so far the lowest level of the first i holders
abbrev pub invariant-loop-i : goal.invariant-loop-i
invariant-loop-i l = l.low ≡ folded top (holder_in l.book l.x) (λ h. level_at l.reg h l.x) (λ low h k i. min low k) l.i
