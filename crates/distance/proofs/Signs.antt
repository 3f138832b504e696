-- Known positions. Proves specs/Promises.antt.
-- Assumes nothing.
use Prim.Native.Nat.{ℕ, ◌+◌, ◌≤◌}
use native.Mathlib.Omega.{arith}
use lib.IntN.{ℤ, ◌-ℤ◌, nat_abs}
use Rattle.std.proofs.lemmas.Bool.Decides.{nat_tests}
use Rattle.std.proofs.lemmas.Int.{ints}
use Rattle.ship.specs.Ship.{known_place}
use Rattle.distance.specs.Distance.{round, apart, distance}
use Rattle.distance.specs.Promises.{FarthestApart}

-- a difference is at most the sum without signs
abs-sub : (x y : ℤ) → nat_abs (x -ℤ y) ≤ nat_abs x + nat_abs y
abs-sub x y = omega (arith, ints)

-- the short way round is at most half way round
pub round-le : (d : ℕ) → round d ≤ 108000000
unfolding round
round-le d = omega arith

-- known latitudes are at most 108,000,000 apart, and so are longitudes the short way round
pub farthest-apart : FarthestApart
unfolding distance apart round known_place
farthest-apart lat lon lat' lon' k k' = grind (arith, nat_tests, abs-sub lat lat')
