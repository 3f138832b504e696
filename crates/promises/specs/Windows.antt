-- Demand 3: our own slots lie in the windows of the plan, one to a window, and neighbours keep their distance.
-- Assumes nothing.
use Rattle.std.specs.Prelude.{ℕ, ◌+◌, ◌-◌, ◌*◌, ◌≤◌, ◌<◌, ◌≡◌, List}
use Rattle.limits.specs.Limits.{slot_times}
use Rattle.plan.specs.declared.Plan.{Plan}
use Rattle.plan.specs.Plan.{half, floor_gap, ceil_gap}
use Rattle.plan.specs.Times.{Comes, Within, Next}
use Rattle.calls.specs.Calls.{plan_in}
use Rattle.promises.specs.Calls.{Call, after_all}
use Rattle.promises.specs.History.{time_of, past_of, who_in}
use Rattle.promises.specs.History.Who.{us}

-- the slot time t, counted since the book was new, is in the book and ours
pub record OursAt (cs : List Call) (t : ℕ) : Type 0 where
  pub from : time_of (past_of cs) ≤ t
  pub to : t < time_of (past_of cs) + slot_times
  pub ours : who_in (after_all cs) (t - time_of (past_of cs)) ≡ us

-- the time t lies in a coming of a window
pub record InAWindow (p : Plan) (t : ℕ) : Type 0 where
  pub window : ℕ
  pub start : ℕ
  pub comes : Comes p window start
  pub within : Within p start t

pub record Spaced (p : Plan) (O : ℕ → Type 0) : Type 0 where
  -- every own slot lies in a window of the plan
  pub lies : (t : ℕ) → O t → InAWindow p t
  -- each coming of a window has at most one
  pub one : (k f t v : ℕ) → Comes p k f → Within p f t → Within p f v → O t → O v → t ≡ v
  -- those in neighbouring windows stand no nearer than floor(2250/r) - 2 h, and no farther than ceil(2250/r) + 2 h
  pub nearest : (k f l g t v : ℕ) → Next p k f l g → Within p f t → Within p g v → O t → O v → t + (floor_gap p - 2 * half p) ≤ v
  pub farthest : (k f l g t v : ℕ) → Next p k f l g → Within p f t → Within p g v → O t → O v → v ≤ t + (ceil_gap p + 2 * half p)

abbrev pub OwnInWindows : Type 0
OwnInWindows = (cs : List Call) → Spaced (plan_in (after_all cs)) (OursAt cs)
