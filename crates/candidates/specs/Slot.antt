-- A slot, `at` ahead of now, with its m later frames: who holds its m + 1 times, and what it is for the choice.
-- Assumes nothing.
use Rattle.std.specs.Prelude.{ℕ, suc, ◌+◌, ◌-◌, ◌*◌, Bool, true, not, List, get_or, eqb, leb, ltb}
use Rattle.laws.specs.Tests.{pick, both}
use Rattle.laws.specs.Ranges.{some, every, least}
use Rattle.limits.specs.Limits.{frame_slots}
use Rattle.ship.specs.declared.Ship.{Ship}
use Rattle.ship.specs.declared.Station.{Station}
use Rattle.ship.specs.Ship.{blank}
use Rattle.book.specs.Book.{ours, is_record, place}
use Rattle.distance.specs.Distance.{gap_to, we_known, is_known, top}

-- What a slot with its later frames is for the choice. `Earlier`: the slot a frame earlier is own. `OwnUnknown` to `HeldOff`: why it is not available. `Far`:
-- available at this distance.
pub data SlotState : Type 0 where
  Own : SlotState
  Earlier : SlotState
  Free : SlotState
  OwnUnknown : SlotState
  Base : SlotState
  Unknown : SlotState
  HeldOff : SlotState
  Far : ℕ → SlotState

-- what a choice looks at: our ship, the station records, and the holder of each slot time
pub record View : Type 0 where
  pub ship : Ship
  pub reg : List Station
  pub slots : List ℕ

-- ---- who holds a time

-- the holder of the time d ahead of now, and of the time i frames after the time at
unfoldable pub holder_at : List ℕ → ℕ → ℕ → ℕ
holder_at slots present d = get_or slots (place present d) 0

abbrev pub frame : List ℕ → ℕ → ℕ → ℕ → ℕ
frame slots present at i = holder_at slots present (at + frame_slots * i)

unfoldable pub is_own : ℕ → Bool
is_own h = eqb h ours

unfoldable pub is_none : ℕ → Bool
is_none h = eqb h 0

-- the record of a holder that has one
unfoldable pub station_of : List Station → ℕ → Station
station_of reg h = get_or reg (h - 1) blank

-- ---- what the holder of a time is, if it has one

-- a base station; a holder without a record counts as one
unfoldable pub is_base : List Station → ℕ → Bool
is_base reg h = both (not (is_none h)) (pick (is_record h) (station_of reg h).base true)

-- a station whose position is not known
unfoldable pub is_unknown : List Station → ℕ → Bool
is_unknown reg h = both (is_record h) (not (is_known (station_of reg h)))

-- a station that is held off
unfoldable pub is_held_off : List Station → ℕ → Bool
is_held_off reg h = both (is_record h) (ltb 0 (station_of reg h).hold)

-- how far away it is; beyond every station where it is none
unfoldable pub gap : View → ℕ → ℕ
gap v h = pick (is_record h) (gap_to v.ship (station_of v.reg h)) top

-- ---- the slot

-- the slot one frame earlier is in the book, and own
unfoldable pub earlier : List ℕ → ℕ → ℕ → Bool
earlier slots present at = both (leb frame_slots at) (is_own (holder_at slots present (at - frame_slots)))

-- own if any of the m + 1 times is; else own a frame earlier; else free if all are nobody's; else not available: our own position is not known, or some
-- holder is a base station, or some holder's position is not known, or some holder is held off; else available, at the distance of the nearest holder
unfoldable pub state_of : View → ℕ → ℕ → ℕ → SlotState
state_of v present at m =
    pick (some (λ i. is_own (frame v.slots present at i)) (suc m)) Own
    (pick (earlier v.slots present at) Earlier
    (pick (every (λ i. is_none (frame v.slots present at i)) (suc m)) Free
    (pick (not (we_known v.ship)) OwnUnknown
    (pick (some (λ i. is_base v.reg (frame v.slots present at i)) (suc m)) Base
    (pick (some (λ i. is_unknown v.reg (frame v.slots present at i)) (suc m)) Unknown
    (pick (some (λ i. is_held_off v.reg (frame v.slots present at i)) (suc m)) HeldOff
    (Far (least top (λ i. gap v (frame v.slots present at i)) (suc m)))))))))
