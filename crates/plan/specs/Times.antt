-- Windows in absolute slot times. A slot time t has the slot number t mod 2250. A coming of a window is named by its first slot time.
-- Assumes nothing.
use Rattle.std.specs.Prelude.{◌≡◌, ℕ, ◌+◌, ◌*◌, ◌%◌, ◌≤◌, ◌<◌}
use Rattle.limits.specs.Limits.{frame_slots}
use Rattle.plan.specs.declared.Plan.{Plan}
use Rattle.plan.specs.Plan.{half, first, onward, after}

-- the window of k comes with its first slot at the time f
pub record Comes (p : Plan) (k f : ℕ) : Type 0 where
  pub known : k < p.rate
  pub starts : f % frame_slots ≡ first p k

-- the time t is one of the 2 h + 1 of the coming that starts at f
pub record Within (p : Plan) (f t : ℕ) : Type 0 where
  pub from : f ≤ t
  pub to : t ≤ f + 2 * half p

-- the coming of l at g is the next one after the coming of k at f
pub record Next (p : Plan) (k f l g : ℕ) : Type 0 where
  pub one : Comes p k f
  pub other : Comes p l g
  pub neighbour : l ≡ after p k
  pub later : f < g
  pub soon : g ≤ f + frame_slots

-- the first slot of the window meant by k at the time u: where u is that slot, or lies inside, it is the next coming
unfoldable pub meant : Plan → ℕ → ℕ → ℕ
meant p k u = u + onward (u % frame_slots) (first p k)
