-- The report of the present slot: time-out, sub-message, and what is given back.
-- Assumes nothing.
use Rattle.std.specs.Prelude.{ℕ, zero, suc, ◌+◌, ◌-◌, ◌*◌, ◌/◌, ◌%◌, Bool, List, [], ◌∷◌, eqb, leb, ltb, get_or, Result, Ok, Err}
use Rattle.laws.specs.Tests.{pick, both}
use Rattle.laws.specs.Counting.{one}
use Rattle.limits.specs.Limits.{frame_slots, most_time_out}
use Rattle.numbers.specs.declared.Refusal.{Refusal}
use Rattle.numbers.specs.declared.Refusal.TheVariants.{NotOwn}
use Rattle.message.specs.declared.state.SubMessage.{SubMessage}
use Rattle.message.specs.declared.state.SubMessage.TheVariants.{Offset, Time, Slot, Stations}
use Rattle.plan.specs.declared.Plan.{Plan}
use Rattle.plan.specs.Plan.{first, since, slots as window_slots}
use Rattle.book.specs.Book.{ours, place}
use Rattle.reporting.specs.declared.Time.{Time as Hour}

-- the time d ahead is ours
unfoldable pub own_at : List ℕ → ℕ → ℕ → Bool
own_at slots present d = eqb (get_or slots (place present d) 0) ours

-- ---- time-out

-- how many of i, i + 1, .., n of them, pass in a row, from the first on
abbrev pub in_a_row : (ℕ → Bool) → ℕ → ℕ → ℕ
in_a_row p i zero = 0
in_a_row p i (suc n) = pick (p i) (suc (in_a_row p (suc i) n)) 0

-- the number of frames in a row, from the next on, in which the same slot is own, at most 7
unfoldable pub time_out : List ℕ → ℕ → ℕ
time_out slots present = in_a_row (λ i. own_at slots present (frame_slots * i)) 1 most_time_out

-- ---- offset

-- the first of the n times from d ahead on that is ours, or 0
abbrev pub first_own : List ℕ → ℕ → ℕ → ℕ → ℕ
first_own slots present d zero = 0
first_own slots present d (suc n) = pick (own_at slots present d) d (first_own slots present (suc d) n)

-- the slot number n lies in the window of k
unfoldable pub lies_in : Plan → ℕ → ℕ → Bool
lies_in p k n = ltb (since (first p k) n) (window_slots p)

-- in the next coming of the window of k, in which now lies: it starts a frame after the coming that now is in
unfoldable pub offset_in : List ℕ → ℕ → Plan → ℕ → ℕ
offset_in slots present p k = first_own slots present (frame_slots - since (first p k) (present % frame_slots)) (window_slots p)

-- of the windows below k
abbrev pub offset_below : List ℕ → ℕ → Plan → ℕ → ℕ
offset_below slots present p zero = 0
offset_below slots present p (suc k) = pick (lies_in p k (present % frame_slots)) (offset_in slots present p k) (offset_below slots present p k)

-- the distance to the first own mark in the next coming of the window that now lies in, or 0 if there is no such mark or window
unfoldable pub offset_of : List ℕ → ℕ → Plan → ℕ
offset_of slots present p = offset_below slots present p p.rate

-- ---- the sub-message

-- how many tallies are above 0
abbrev pub heard_stations : List ℕ → ℕ
heard_stations [] = 0
heard_stations (t ∷ l) = one (ltb 0 t) + heard_stations l

-- time-out 0: offset; 1: hour and minute; 2, 4, 6: now's slot number; 3, 5, 7: stations
unfoldable pub sub_message : List ℕ → ℕ → ℕ → Plan → Hour → ℕ → SubMessage
sub_message slots stations present p time n =
    pick (eqb n 0) (Offset (offset_of slots present p))
    (pick (eqb n 1) (Time (record { hour = time.hour; minute = time.minute; unused = 0 }))
    (pick (eqb (n % 2) 0) (Slot (record { pairs = (n - 2) / 2; number = present % frame_slots }))
    (Stations (record { pairs = (n - 3) / 2; number = stations }))))

-- ---- the call

unfoldable pub time_fits : Hour → Bool
time_fits time = both (leb time.hour 23) (leb time.minute 59)

-- what `report` promises: 36 where now is not own
unfoldable pub reported : List ℕ → ℕ → ℕ → Plan → Hour → Result SubMessage Refusal
reported slots stations present p time =
    pick (own_at slots present 0) (Ok (sub_message slots stations present p time (time_out slots present))) (Err NotOwn)
