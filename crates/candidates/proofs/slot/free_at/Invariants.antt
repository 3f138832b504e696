-- `candidates::slot::free_at` meets its contract: the loop has met only times that are nobody's.
-- Assumes nothing.
use mathlib.Core.Path.{◌≡◌}
use mathlib.Core.Bool.{true}
use Prim.Native.Nat.{◌+◌, ◌*◌}
use Rattle.laws.specs.Ranges.{every}
use Rattle.limits.specs.Limits.{frame_slots}
use Rattle.book.specs.Book.{place}
use Rattle.candidates.specs.Slot.{frame, is_none}
use Rattle.candidates.proofs.slot.free_at.Given as goal

abbrev pub invariant-loop-i : goal.invariant-loop-i
invariant-loop-i l = (l.p ≡ place l.present (l.at + frame_slots * l._i)) × (every (λ j. is_none (frame l.book l.present l.at j)) l._i ≡ true)
