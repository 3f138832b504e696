-- Our own ship and other stations: which sources and positions there are, and the call that sets our own.
-- Assumes nothing.
use Rattle.std.specs.Prelude.{ℕ, Bool, true, false, List, [], ◌∷◌, eqb, leb, ℤ, pos, negsuc, nat_abs, Result, Ok, Err}
use Rattle.laws.specs.Tests.{both, pick, between, ladder}
use Rattle.numbers.specs.declared.Refusal.{Refusal}
use Rattle.numbers.specs.declared.Refusal.TheVariants.{BadSource, OutOfRange}
use Rattle.numbers.specs.Numbers.{number_of}
use Rattle.ship.specs.declared.Ship.{Ship}
use Rattle.ship.specs.declared.Station.{Station}

abbrev pub owned_number : Result Ship Refusal → ℕ
owned_number (Ok s) = 0
owned_number (Err r) = number_of r

-- a station can have this source
unfoldable pub fair_source : ℕ → Bool
fair_source source = between 1 999999999 source

-- ---- positions, in 1/10000 minute

-- latitude and longitude of a place that can be
unfoldable pub known_place : ℤ → ℤ → Bool
known_place lat lon = both (leb (nat_abs lat) 54000000) (leb (nat_abs lon) 108000000)

-- the position that says that it is unknown: 91 degrees north, 181 degrees east
abbrev pub unknown_ship : Ship
unknown_ship = record { source = 0; latitude = pos 54600000; longitude = pos 108600000 }

-- a record of a new register: all 0 and mobile
abbrev pub blank : Station
blank = record { source = 0; base = false; latitude = pos 0; longitude = pos 0; tally = 0; hold = 0 }

unfoldable pub unknown_place : ℤ → ℤ → Bool
unknown_place (pos lat) (pos lon) = both (eqb lat 54600000) (eqb lon 108600000)
unknown_place (pos lat) (negsuc lon) = false
unknown_place (negsuc lat) (pos lon) = false
unknown_place (negsuc lat) (negsuc lon) = false

-- a position that can be our own
unfoldable pub own_place : ℤ → ℤ → Bool
own_place lat lon = pick (unknown_place lat lon) true (known_place lat lon)

unfoldable pub own_tests : ℕ → ℤ → ℤ → List (Bool × Result Ship Refusal)
own_tests source lat lon =
    (fair_source source, Err BadSource)
    ∷ (own_place lat lon, Err OutOfRange)
    ∷ []

-- what `own` promises
unfoldable pub own_answer : ℕ → ℤ → ℤ → Result Ship Refusal
unfolding own_tests
own_answer source lat lon = ladder (own_tests source lat lon) (Ok (record { source = source; latitude = lat; longitude = lon }))
