use lib.ListN.{take}
use Rattle.announcing.specs.Next.{NextTime, kind_time}
use Rattle.announcing.proofs.times.next_time.Given as goal

-- t is the next time of the rows that were asked
abbrev pub invariant-loop-r : goal.invariant-loop-r
invariant-loop-r l = NextTime (kind_time l.kind (take l.r-index l.r-items)) l.d l.t
