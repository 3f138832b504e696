use Rattle.std.proofs.Common.{◌≡◌}
use Rattle.walks.specs.Folded.{folded}
use Rattle.candidates.specs.Rounds.{better_of}
use Rattle.candidates.specs.Scanning.{worth_by, slot_of, slot_level, none_yet, bound_of}
use Rattle.choosing.proofs.scan.Given as goal

-- so far the best keys of the first i slots
abbrev pub invariant-loop-i : goal.invariant-loop-i
invariant-loop-i l =
    l.best
    ≡ folded none_yet (λ b. slot_of l.book l.q.window l.q.watch.ship (bound_of b)) (slot_level l.reg l.book)
    (λ b x low i. better_of b (worth_by x.earlier low) i) l.i
