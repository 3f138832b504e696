-- The communication state: 19 bits from bit 149 on.
-- Assumes nothing.
use Rattle.std.specs.Prelude.{ℕ, ◌+◌, ◌-◌, ◌*◌, ◌/◌, ◌%◌, List, [], ◌∷◌, eqb, leb}
use Rattle.laws.specs.Tests.{pick}
use Rattle.bits.specs.Field.{field_of}
use Rattle.message.specs.declared.state.Clock.{Clock}
use Rattle.message.specs.declared.state.SubMessage.{SubMessage}
use Rattle.message.specs.declared.state.SubMessage.TheVariants.{Offset, Time, Slot, Stations}
use Rattle.message.specs.declared.state.SelfOrganised.{SelfOrganised}
use Rattle.message.specs.declared.state.Incremental.{Incremental}

-- ---- read

unfoldable pub clock_of : List ℕ → Clock
clock_of l = record { hour = field_of l 154 5; minute = field_of l 159 7; unused = field_of l 166 2 }

-- time-out 0: offset; 1: the clock; 2, 4, 6: slot number; 3, 5, 7: stations received
unfoldable pub sub_of : List ℕ → ℕ → SubMessage
sub_of l t =
    pick (eqb t 0) (Offset (field_of l 154 14))
    (pick (eqb t 1) (Time (clock_of l))
    (pick (eqb (t % 2) 0) (Slot (record { pairs = (t - 2) / 2; number = field_of l 154 14 }))
    (Stations (record { pairs = (t - 3) / 2; number = field_of l 154 14 }))))

unfoldable pub organised_of : List ℕ → SelfOrganised
organised_of l = record { sync = field_of l 149 2; sub = sub_of l (field_of l 151 3) }

unfoldable pub incremental_of : List ℕ → Incremental
incremental_of l = record { sync = field_of l 149 2; increment = field_of l 151 13; code = field_of l 164 3; keep = field_of l 167 1 }

-- ---- written: widths and numbers in a row

abbrev pub time_out_of : SubMessage → ℕ
time_out_of (Offset v) = 0
time_out_of (Time c) = 1
time_out_of (Slot c) = 2 + 2 * c.pairs
time_out_of (Stations c) = 3 + 2 * c.pairs

abbrev pub sub_row : SubMessage → List (ℕ × ℕ)
sub_row (Offset v) = (14, v) ∷ []
sub_row (Time c) = (5, c.hour) ∷ (7, c.minute) ∷ (2, c.unused) ∷ []
sub_row (Slot c) = (14, c.number) ∷ []
sub_row (Stations c) = (14, c.number) ∷ []

abbrev pub organised_row : SelfOrganised → List (ℕ × ℕ)
organised_row s = (2, s.sync) ∷ (3, time_out_of s.sub) ∷ sub_row s.sub

abbrev pub incremental_row : Incremental → List (ℕ × ℕ)
incremental_row s = (2, s.sync) ∷ (13, s.increment) ∷ (3, s.code) ∷ (1, s.keep) ∷ []

-- ---- what an incremental state announces: so many slots, so far ahead; increment 0 announces nothing, for every code

unfoldable pub slots_of : Incremental → ℕ
slots_of s = pick (eqb s.increment 0) 0 (pick (leb s.code 4) (s.code + 1) (s.code - 4))

unfoldable pub distance_of : Incremental → ℕ
distance_of s = pick (leb s.code 4) s.increment (s.increment + 8192)
