-- What is promised of distances and levels, beyond what the functions' contracts say. Proved in proofs/Signs.antt and proofs/Levels.antt.
-- Assumes nothing.
use Rattle.std.specs.Prelude.{◌+◌, ◌≤◌, ◌<◌, ◌≡◌, true, ℤ}
use Rattle.ship.specs.Ship.{known_place}
use Rattle.ship.specs.declared.Ship.{Ship}
use Rattle.ship.specs.declared.Station.{Station}
use Rattle.distance.specs.Distance.{distance, gap_to, we_known, may_reuse, far_level, top, level_of}

-- known positions are at most 216,000,000 apart
abbrev pub FarthestApart : Type 0
FarthestApart =
    (lat lon lat' lon' : ℤ) → known_place lat lon ≡ true → known_place lat' lon' ≡ true → distance lat lon lat' lon' ≤ 216000000

-- so no station has the level that says nobody's
abbrev pub LevelsBelowTop : Type 0
LevelsBelowTop = (p : Ship) (s : Station) → we_known p ≡ true → level_of p s < top

-- a station whose slots may be reused is at the level of its distance
abbrev pub ReusedByDistance : Type 0
ReusedByDistance = (p : Ship) (s : Station) → may_reuse p s ≡ true → level_of p s ≡ far_level + gap_to p s
