-- What is promised of the report, beyond what the call's contract says. Proved in proofs/Promised.antt.
-- Assumes nothing.
use Rattle.std.specs.Prelude.{ℕ, ◌+◌, ◌-◌, ◌*◌, ◌%◌, ◌≤◌, ◌<◌, ◌≡◌, true, false, List}
use Rattle.limits.specs.Limits.{frame_slots, most_time_out}
use Rattle.plan.specs.declared.Plan.{Plan}
use Rattle.plan.specs.Plan.{InRange, InWindow, first, since, slots as window_slots}
use Rattle.message.specs.State.{time_out_of}
use Rattle.reporting.specs.declared.Time.{Time}
use Rattle.reporting.specs.Report.{own_at, time_out, offset_of, sub_message}

-- ---- the time-out that the sub-message has is the number of frames in a row

abbrev pub TimeOutSaid : Type 0
TimeOutSaid =
    (slots : List ℕ) (stations present : ℕ) (p : Plan) (time : Time) (n : ℕ) → time_out_of (sub_message slots stations present p time n) ≡ n

-- so many frames are own, and the next one is not, or there are seven
pub record FramesOwn (slots : List ℕ) (present : ℕ) : Type 0 where
  pub most : time_out slots present ≤ most_time_out
  pub own : (i : ℕ) → 1 ≤ i → i ≤ time_out slots present → own_at slots present (frame_slots * i) ≡ true
  pub ends : time_out slots present < most_time_out → own_at slots present (frame_slots * (time_out slots present + 1)) ≡ false

abbrev pub FramesAreOwn : Type 0
FramesAreOwn = (slots : List ℕ) (present : ℕ) → FramesOwn slots present

-- ---- the offset is the first own mark of the next coming, or 0

-- where now lies in the window of k, whose next coming starts a ahead
pub record OffsetFinds (slots : List ℕ) (present : ℕ) (p : Plan) (a : ℕ) : Type 0 where
  pub none : offset_of slots present p ≡ 0 → (d : ℕ) → a ≤ d → d < a + window_slots p → own_at slots present d ≡ false
  pub from : 0 < offset_of slots present p → a ≤ offset_of slots present p
  pub to : 0 < offset_of slots present p → offset_of slots present p < a + window_slots p
  pub own : 0 < offset_of slots present p → own_at slots present (offset_of slots present p) ≡ true
  pub first : (d : ℕ) → a ≤ d → d < offset_of slots present p → own_at slots present d ≡ false

abbrev pub OffsetInWindow : Type 0
OffsetInWindow =
    (slots : List ℕ) (present : ℕ) (p : Plan) (k : ℕ) → InRange p → InWindow p k (present % frame_slots)
    → OffsetFinds slots present p (frame_slots - since (first p k) (present % frame_slots))

abbrev pub OffsetOutside : Type 0
OffsetOutside =
    (slots : List ℕ) (present : ℕ) (p : Plan) → ((k : ℕ) → InWindow p k (present % frame_slots) → ⊥) → offset_of slots present p ≡ 0
