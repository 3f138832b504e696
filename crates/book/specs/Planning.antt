-- Which plans there can be.
-- Assumes nothing.
use Rattle.std.specs.Prelude.{ℕ, ◌-◌, Bool, leb}
use Rattle.laws.specs.Tests.{both, between}
use Rattle.limits.specs.Limits.{frame_slots, most_rate}

-- a plan of r reports from the slot s on can be
unfoldable pub plan_fits : ℕ → ℕ → Bool
plan_fits r s = both (between 1 most_rate r) (leb s (frame_slots - 1))
