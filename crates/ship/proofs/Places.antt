-- Positions by the bits of their numbers, as `stated` compares them.
-- Assumes nothing.
use mathlib.Core.Path.{◌≡◌, refl, sym, ap, ◌∙◌}
use mathlib.Core.Logic.{◌⊎◌, inl, inr}
use mathlib.Core.Bool.{true}
use borrow.Author.Tests.{eq-eqb, ne_eqb}
use lib.IntN.{ℤ, pos, negsuc}
use mir.Facts.{to_z-of_z}
use mir.Syntax.{w32}
use mir.Val.{SFits, to_z, of_z}
use Rattle.ship.specs.Ship.{known_place, unknown_place, own_place}

-- what is said of two numbers read back from their bits, as a call and a new struct read them, is said of the numbers
pub read_back :
    {X : Type 0} (say : ℤ → ℤ → X) {lat lon : ℤ} → SFits w32 lat → SFits w32 lon → say (to_z w32 (of_z w32 lat)) (to_z w32 (of_z w32 lon)) ≡ say lat lon
read_back say {lat = lat} {lon = lon} f g = ap (λ (z : ℤ). say z (to_z w32 (of_z w32 lon))) (to_z-of_z f) ∙ ap (say lat) (to_z-of_z g)

-- the bits of the unknown position
pub says_unknown : (lat lon : ℤ) → SFits w32 lat → SFits w32 lon → of_z w32 lat ≡ 54600000 → of_z w32 lon ≡ 108600000 → true ≡ own_place lat lon
unfolding own_place unknown_place
says_unknown lat lon f g e h =
    let north : pos 54600000 ≡ lat = ap (to_z w32) (sym e) ∙ to_z-of_z f in
    let east : pos 108600000 ≡ lon = ap (to_z w32) (sym h) ∙ to_z-of_z g in
    λ i. own_place (north i) (east i)

-- other bits
pub says_known : (lat lon : ℤ) → ((of_z w32 lat ≡ 54600000) × (of_z w32 lon ≡ 108600000 → ⊥)) ⊎ (of_z w32 lat ≡ 54600000 → ⊥) → known_place lat lon ≡ own_place lat lon
unfolding own_place unknown_place
says_known (pos n) (pos m) (inl h) = simp (eq-eqb n 54600000 h.0, ne_eqb m 108600000 h.1)
says_known (pos n) (pos m) (inr k) = simp (ne_eqb n 54600000 k)
says_known (pos n) (negsuc m) h = refl
says_known (negsuc n) (pos m) h = refl
says_known (negsuc n) (negsuc m) h = refl
