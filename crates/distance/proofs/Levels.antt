-- The level of a station by the tests on the way, and its promises.
-- Assumes nothing.
use mathlib.Core.Path.{◌≡◌}
use mathlib.Core.Bool.{true, false}
use Prim.Native.Nat.{◌+◌, ◌<◌, ◌≤◌}
use borrow.Author.Tests.{lt-ltb, le-ltb}
use native.Mathlib.Omega.{arith}
use Rattle.std.proofs.lemmas.Bool.Decides.{nat_tests}
use Rattle.ship.specs.Ship.{known_place}
use Rattle.ship.specs.declared.Ship.{Ship}
use Rattle.ship.specs.declared.Station.{Station}
use Rattle.distance.specs.Distance.{gap_to, may_reuse, base_level, unknown_level, held_off_level, far_level, level_of}
use Rattle.distance.specs.Promises.{LevelsBelowTop, ReusedByDistance}
use Rattle.distance.proofs.Signs.{farthest-apart}

-- ---- each return

module _ (p : Ship) (s : Station) where
  pub level-base : s.base ≡ true → base_level ≡ level_of p s
  unfolding level_of
  level-base b = simp b

  module _ (b : s.base ≡ false) where
    pub level-unknown : known_place s.latitude s.longitude ≡ false → unknown_level ≡ level_of p s
    unfolding level_of
    level-unknown k = simp (b, k)

    module _ (k : known_place s.latitude s.longitude ≡ true) where
      pub level-held : 0 < s.hold → held_off_level ≡ level_of p s
      unfolding level_of
      level-held h = simp (b, k, lt-ltb 0 s.hold h)

      pub level-gap : s.hold ≤ 0 → far_level + gap_to p s ≡ level_of p s
      unfolding level_of
      level-gap h = simp (b, k, le-ltb 0 s.hold h)

-- ---- promises

pub levels-below-top : LevelsBelowTop
unfolding level_of gap_to
levels-below-top p s k = grind (arith, nat_tests, farthest-apart p.latitude p.longitude s.latitude s.longitude k)

pub reused-by-distance : ReusedByDistance
unfolding level_of may_reuse
reused-by-distance p s e = grind (arith, nat_tests)
