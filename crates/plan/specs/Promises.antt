-- What is promised of a plan, beyond what each method's contract says. Proved in proofs/Promised.antt.
-- Assumes nothing.
use Rattle.std.specs.Prelude.{ℕ, ◌+◌, ◌-◌, ◌*◌, ◌%◌, ◌≤◌, ◌<◌, ◌≡◌, Bool, Option, ◌⊎◌, ◌↔◌, T}
use Rattle.limits.specs.Limits.{frame_slots}
use Rattle.plan.specs.declared.Plan.{Plan}
use Rattle.plan.specs.Plan.{InRange, nominal, half, first, floor_gap, ceil_gap, after, gap, gaps, since, InWindow, Tells}
use Rattle.plan.specs.Times.{Comes, Within, Next, meant}

-- no second answer meets the contract of good. (Those of nominal, half, slots and first are equations, and those of none and changed say
-- both fields.)
abbrev pub GoodOnce : Type 0
GoodOnce = (p : Plan) (r r' : Bool) → (T r ↔ InRange p) → (T r' ↔ InRange p) → r ≡ r'

-- ---- gaps

-- each nominal slot is floor(2250/r) or ceil(2250/r) before its neighbour, the last one before the first of the next frame too
abbrev pub GapsFloorOrCeil : Type 0
GapsFloorOrCeil = (p : Plan) → InRange p → (k : ℕ) → k < p.rate → (gap p k ≡ floor_gap p) ⊎ (gap p k ≡ ceil_gap p)

-- the r gaps make a frame: no slot is lost, however long it goes on
abbrev pub GapsMakeAFrame : Type 0
GapsMakeAFrame = (p : Plan) → InRange p → gaps p p.rate ≡ frame_slots

-- ---- windows in slot numbers

-- the nominal slot is the middle one: h slots of its window are before it, and h after
abbrev pub NominalInTheMiddle : Type 0
NominalInTheMiddle = (p : Plan) (k : ℕ) → (first p k + half p) % frame_slots ≡ nominal p k

-- no slot lies in two windows
abbrev pub NoSlotInTwo : Type 0
NoSlotInTwo = (p : Plan) → InRange p → (k l n : ℕ) → n < frame_slots → InWindow p k n → InWindow p l n → k ≡ l

-- so no second answer meets the contract of window_of
abbrev pub ToldOnce : Type 0
ToldOnce = (p : Plan) → InRange p → (n : ℕ) → n < frame_slots → (r r' : Option ℕ) → Tells p n r → Tells p n r' → r ≡ r'

-- ---- windows in slot times

-- a time lies in a coming of k where its slot number lies in the window of k, and the number tells where that coming started. (One that
-- started before time 0 has no time of start.)
pub record SlotTells (p : Plan) (k t : ℕ) : Type 0 where
  pub number : (f : ℕ) → Comes p k f → Within p f t → InWindow p k (t % frame_slots)
  pub start : InWindow p k (t % frame_slots) → since (first p k) (t % frame_slots) ≤ t
      → Comes p k (t - since (first p k) (t % frame_slots)) × Within p (t - since (first p k) (t % frame_slots)) t

abbrev pub SlotsTellTimes : Type 0
SlotsTellTimes = (p : Plan) (k t : ℕ) → SlotTells p k t

-- windows do not overlap: a slot time lies in one coming of one window
abbrev pub NoTimeInTwo : Type 0
NoTimeInTwo =
    (p : Plan) → InRange p → (k l f g t : ℕ) → Comes p k f → Comes p l g → Within p f t → Within p g t → (k ≡ l) × (f ≡ g)

-- each coming has a next one, and no other
pub record HasOneNext (p : Plan) (k f : ℕ) : Type 0 where
  pub next : Next p k f (after p k) (meant p (after p k) f)
  pub only : (l g : ℕ) → Next p k f l g → (l ≡ after p k) × (g ≡ meant p (after p k) f)

abbrev pub EachHasOneNext : Type 0
EachHasOneNext = (p : Plan) → InRange p → (k f : ℕ) → Comes p k f → HasOneNext p k f

-- demand 3: slots in neighbouring windows, whichever they are, stand no nearer than floor(2250/r) - 2 h ..
abbrev pub NoNearer : Type 0
NoNearer =
    (p : Plan) → InRange p → (k f l g t v : ℕ) → Next p k f l g → Within p f t → Within p g v → t + (floor_gap p - 2 * half p) ≤ v

-- .. and no farther than ceil(2250/r) + 2 h
abbrev pub NoFarther : Type 0
NoFarther =
    (p : Plan) → InRange p → (k f l g t v : ℕ) → Next p k f l g → Within p f t → Within p g v → v ≤ t + (ceil_gap p + 2 * half p)

-- the window meant at the time u is the one coming of k whose first slot is 1 to 2250 ahead
pub record MeantAhead (p : Plan) (k u : ℕ) : Type 0 where
  pub comes : Comes p k (meant p k u)
  pub least : u + 1 ≤ meant p k u
  pub most : meant p k u ≤ u + frame_slots
  pub only : (f : ℕ) → Comes p k f → u + 1 ≤ f → f ≤ u + frame_slots → f ≡ meant p k u

abbrev pub MeantIsAhead : Type 0
MeantIsAhead = (p : Plan) (k u : ℕ) → k < p.rate → MeantAhead p k u
