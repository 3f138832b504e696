use Rattle.announcing.specs.Next.{NextTime}
use Rattle.announcing.proofs.Finding.{frames_time}
use Rattle.announcing.proofs.times.next_in.Given as goal

-- t is the next time in the frames that were asked
abbrev pub invariant-loop-f : goal.invariant-loop-f
invariant-loop-f l = NextTime (frames_time l.r l.f) l.d l.t
