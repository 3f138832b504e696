-- What a run over slot times keeps to, whatever is done at each of them.
-- Assumes nothing.
use Rattle.std.specs.Prelude.{ℕ, ◌≡◌, Bool, true, List, length}
use Rattle.limits.specs.Limits.{slot_times, records}
use Rattle.ship.specs.declared.Station.{Station}
use Rattle.register.specs.declared.Turn.{Turn}
use Rattle.register.specs.Register.{lost_in, won_in}

-- a run that began with a register and a book stands at a turn, with both as they are then
abbrev pub Standing : Type 1
Standing = List Station → List ℕ → Turn → List Station → List ℕ → Type 0

-- a slot time is left, where some run stands
abbrev pub MayStep : Standing → (Turn → Bool) → List ℕ → Turn → Type 0
MayStep stands more cs t =
    (length cs ≡ slot_times) × (more t ≡ true)
    × ((ys : List Station) × (bs : List ℕ) × (zs : List Station) × stands ys bs t zs cs)

-- a step from t to u, and the records that follow it: each run that stood before it stands after it
abbrev pub Keeps : Standing → Turn → List ℕ → Turn → List ℕ → Type 0
Keeps stands t cs u ds =
    (ys : List Station) (bs : List ℕ) (zs : List Station)
    → length zs ≡ records → stands ys bs t zs cs → stands ys bs u (won_in (lost_in zs u) u) ds
