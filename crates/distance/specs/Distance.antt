-- How far a station is from us, and its level for the choice. Positions count 1/10000 minute.
-- Assumes nothing.
use Rattle.std.specs.Prelude.{ℕ, ◌+◌, ◌-◌, min, Bool, not, ℤ, ◌-ℤ◌, nat_abs, eqb, ltb}
use Rattle.laws.specs.Tests.{pick, both}
use Rattle.ship.specs.Ship.{known_place}
use Rattle.ship.specs.declared.Ship.{Ship}
use Rattle.ship.specs.declared.Station.{Station}

unfoldable pub apart : ℤ → ℤ → ℕ
apart x y = nat_abs (x -ℤ y)

-- the short way round, 216,000,000 being once round the earth
unfoldable pub round : ℕ → ℕ
round d = min d (216000000 - d)

-- |latitude difference| + |longitude difference|, the latter the short way round
unfoldable pub distance : ℤ → ℤ → ℤ → ℤ → ℕ
distance lat lon lat' lon' = apart lat lat' + round (apart lon lon')

-- how far a station is from our ship
unfoldable pub gap_to : Ship → Station → ℕ
gap_to p s = distance p.latitude p.longitude s.latitude s.longitude

-- whether a position is known: our ship's, and a station's
abbrev pub we_known : Ship → Bool
we_known p = known_place p.latitude p.longitude

abbrev pub is_known : Station → Bool
is_known s = known_place s.latitude s.longitude

-- a station's slots may be reused: own position is known, it is a mobile with known position and hold-off 0
unfoldable pub may_reuse : Ship → Station → Bool
may_reuse p s = both (we_known p) (both (not s.base) (both (is_known s) (eqb s.hold 0)))

-- ---- levels: the lower, the less may a holder's time be used

abbrev pub own_level : ℕ
own_level = 0

abbrev pub we_unknown_level : ℕ
we_unknown_level = 1

abbrev pub base_level : ℕ
base_level = 2

abbrev pub unknown_level : ℕ
unknown_level = 3

abbrev pub held_off_level : ℕ
held_off_level = 4

abbrev pub far_level : ℕ
far_level = 5

-- that of a time that nobody holds
abbrev pub top : ℕ
top = 36028797018963968

-- the level of a station, our own position being known
unfoldable pub level_of : Ship → Station → ℕ
level_of p s =
    pick s.base base_level
    (pick (not (is_known s)) unknown_level
    (pick (ltb 0 s.hold) held_off_level
    (far_level + gap_to p s)))
