-- How often a scan turns.
-- Assumes nothing.
use Prim.Native.Nat.{ℕ, ◌≤◌}
use lib.Dec.{ltb}
use native.Mathlib.Omega.{arith}
use Rattle.std.specs.declared.option.Option.{Option}
use Rattle.std.specs.declared.option.Option.TheVariants.{None, Some}
use Rattle.laws.specs.Tests.{pick}
use Rattle.laws.proofs.Tests.{pick-has}
use Rattle.distance.specs.Distance.{we_known}
use Rattle.choosing.specs.declared.Query.{Query}
use Rattle.choosing.specs.Scanning.{turns_by, turns_of}

-- no more turns than slots
pub turns-few : (q : Query) → turns_of q ≤ q.window.width
unfolding turns_of
turns-few q = by q.free
  where
    by : (o : Option ℕ) → turns_by o (we_known q.watch.ship) q.window.width ≤ q.window.width
    by None = omega arith
    by (Some f) =
        pick-has (λ (n : ℕ). n ≤ q.window.width) (ltb 3 f) 0 (pick (we_known q.watch.ship) q.window.width 0) (omega arith)
        (pick-has (λ (n : ℕ). n ≤ q.window.width) (we_known q.watch.ship) q.window.width 0 (omega arith) (omega arith))
