-- The proofs of specs/Promises.antt.
-- Assumes nothing.
use mathlib.Core.Path.{◌≡◌, refl, sym, ap, ◌∙◌}
use mathlib.Core.List.{List}
use Prim.Native.Nat.{ℕ, ◌+◌, ◌-◌, ◌*◌, ◌/◌, ◌%◌, ◌≤◌}
use native.Mathlib.Nat.{add_comm}
use native.Mathlib.Decide.{ℕ_discrete}
use native.Mathlib.Omega.{arith}
use Rattle.limits.specs.Limits.{frame_slots, most_time_out}
use Rattle.message.specs.State.{time_out_of}
use Rattle.plan.specs.declared.Plan.{Plan}
use Rattle.plan.specs.Plan.{first, since, slots as window_slots}
use Rattle.reporting.specs.Report.{time_out, first_own, offset_in, offset_of, sub_message}
use Rattle.reporting.specs.Promises.{TimeOutSaid, FramesAreOwn, OffsetFinds, OffsetInWindow, OffsetOutside}
use Rattle.reporting.proofs.Looking.{frame_own, row-passes, row_ends, time-out-most}
use Rattle.reporting.proofs.Offsets.{Found, found, offset-in, offset-out}
use Rattle.reporting.proofs.Answers.{say-offset, say-time, say-slot, say-stations}

-- ---- the time-out

-- a time-out by its pairs
even-pairs : (n : ℕ) → 2 ≤ n → n % 2 ≡ 0 → 2 + 2 * ((n - 2) / 2) ≡ n
even-pairs n l e = omega arith

odd-pairs : (n : ℕ) → 2 ≤ n → (n % 2 ≡ 0 → ⊥) → 3 + 2 * ((n - 3) / 2) ≡ n
odd-pairs n l e = omega arith

pub time-out-said : TimeOutSaid
time-out-said slots stations present p time n = go (ℕ_discrete n 0) (ℕ_discrete n 1) (ℕ_discrete (n % 2) 0)
  where
    go : Dec (n ≡ 0) → Dec (n ≡ 1) → Dec (n % 2 ≡ 0) → time_out_of (sub_message slots stations present p time n) ≡ n
    go (yes a) b e = sym (ap time_out_of (say-offset slots stations present p time n (offset_of slots present p) a refl)) ∙ sym a
    go (no a) (yes b) e = sym (ap time_out_of (say-time slots stations present p time n a b)) ∙ sym b
    go (no a) (no b) (yes e) = sym (ap time_out_of (say-slot slots stations present p time n a b e)) ∙ even-pairs n (omega (arith, a, b)) e
    go (no a) (no b) (no e) = sym (ap time_out_of (say-stations slots stations present p time n a b _ e refl)) ∙ odd-pairs n (omega (arith, a, b)) e

pub frames-are-own : FramesAreOwn
unfolding time_out
frames-are-own slots present =
    record {
      most = time-out-most slots present;
      own = λ i l m. row-passes (frame_own slots present) 1 most_time_out i l (omega (arith, m));
      ends = λ l. ap (frame_own slots present) (add_comm (time_out slots present) 1) ∙ row_ends (frame_own slots present) 1 most_time_out l;
    }

-- ---- the offset

-- what is found of the first own time, said of an offset that is it
finds : (slots : List ℕ) (present : ℕ) (p : Plan) (a r : ℕ) → offset_of slots present p ≡ r
    → Found slots present a (window_slots p) r → OffsetFinds slots present p a
finds slots present p a r e h =
    record {
      none = λ z. h.none (sym e ∙ z);
      from = λ z. rw e (h.from (rw e at z));
      to = λ z. rw e (h.to (rw e at z));
      own = λ z. rw e (h.own (rw e at z));
      first = λ d l m. h.first d l (rw e at m);
    }

pub offset-in-window : OffsetInWindow
unfolding offset_in
offset-in-window slots present p k good w =
    let a = frame_slots - since (first p k) (present % frame_slots) in
    finds slots present p a (first_own slots present a (window_slots p)) (offset-in slots present p k good w)
    (found slots present a (window_slots p) (omega arith))

pub offset-outside : OffsetOutside
offset-outside slots present p none = offset-out slots present p none
