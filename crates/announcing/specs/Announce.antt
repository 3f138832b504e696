-- What a message announces, by its state.
-- Assumes nothing.
use Rattle.std.specs.Prelude.{ℕ, zero, suc, ◌+◌, ◌-◌, ◌*◌, min, List, [], ◌∷◌, ◌++◌, eqb}
use Rattle.laws.specs.Tests.{pick}
use Rattle.limits.specs.Limits.{frame_slots, most_time_out}
use Rattle.message.specs.declared.state.SubMessage.{SubMessage}
use Rattle.message.specs.declared.state.SubMessage.TheVariants.{Offset, Time, Slot, Stations}
use Rattle.message.specs.declared.state.Incremental.{Incremental}
use Rattle.message.specs.declared.state.State.{State}
use Rattle.message.specs.declared.state.State.TheVariants.{SelfOrganised as Organised, Incremental as Increasing}
use Rattle.message.specs.State.{time_out_of, slots_of, distance_of}
use Rattle.announcing.specs.declared.rows.Row.{Row}
use Rattle.announcing.specs.declared.rows.Kind.{Kind}
use Rattle.announcing.specs.declared.rows.Kind.TheVariants.{Mark, Free}

-- n slots are marked from d ahead on
abbrev pub block : ℕ → ℕ → Row
block d n = record { from = d; slots = n; step = 0; times = 1; frames = 1; kind = Mark }

-- the slot of now, i frames ahead and again in every frame, n times: marked or freed
abbrev pub every_frame : ℕ → ℕ → Kind → Row
every_frame i n k = record { from = frame_slots * i; slots = 1; step = frame_slots; times = n; frames = 1; kind = k }

-- time-out n: for i = 1 to 7 the time i frames ahead is marked if i is at most n, otherwise freed
abbrev pub frames : ℕ → List Row
frames n = every_frame (n + 1) (most_time_out - n) Free ∷ every_frame 1 n Mark ∷ []

-- time-out 0: the offset, if it is not 0
abbrev pub offset : SubMessage → List Row
offset (Offset d) = pick (eqb d 0) [] (block d 1 ∷ [])
offset (Time c) = []
offset (Slot c) = []
offset (Stations c) = []

-- keep 1: the same slot in the next frame
abbrev pub keeps : Incremental → List Row
keeps s = pick (eqb s.keep 1) (every_frame 1 1 Mark ∷ []) []

unfoldable pub announces : State → List Row
announces (Organised s) = frames (min (time_out_of s.sub) most_time_out) ++ offset s.sub
announces (Increasing s) = keeps s ++ (block (distance_of s) (slots_of s) ∷ [])

-- ---- as many rows as the code keeps

-- the most rows of a report
abbrev pub most_rows : ℕ
most_rows = 3

-- a row without a time
abbrev pub unused : Row
unused = record { from = 0; slots = 0; step = 0; times = 0; frames = 0; kind = Free }

-- the first n rows, and unused ones where there are fewer
abbrev pub filled_to : ℕ → List Row → List Row
filled_to zero rows = []
filled_to (suc n) [] = unused ∷ filled_to n []
filled_to (suc n) (r ∷ rs) = r ∷ filled_to n rs

unfoldable pub filled : List Row → List Row
filled = filled_to most_rows
