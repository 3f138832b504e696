-- How the code finds the slot that a draw picks, by one look at each slot of the window: what the book alone tells is asked of the book, and only the holders that
-- it has of a slot are looked up in the register, no further than the slot can be one of the four best. No promise needs this: proofs/Sameness.antt has that it
-- comes to the choice.
-- Assumes nothing.
use Rattle.std.specs.Prelude.{ℕ, ◌+◌, ◌-◌, ◌*◌, ◌/◌, ◌%◌, min, Bool, true, false, not, List, get_or, eqb, leb, ltb}
use Rattle.std.specs.declared.result.Result.{Result}
use Rattle.laws.specs.Tests.{pick, both, either}
use Rattle.laws.specs.Ranges.{every, how_many, those}
use Rattle.limits.specs.Limits.{frame_slots, slot_times}
use Rattle.numbers.specs.declared.Refusal.{Refusal}
use Rattle.ship.specs.declared.Ship.{Ship}
use Rattle.ship.specs.declared.Station.{Station}
use Rattle.ship.specs.Ship.{blank}
use Rattle.book.specs.Book.{is_record, record_at, place}
use Rattle.walks.specs.Folded.{folded}
use Rattle.distance.specs.Distance.{own_level, base_level, held_off_level, top, level_of}
use Rattle.candidates.specs.declared.Window.{Window}
use Rattle.candidates.specs.declared.Picked.{Picked}
use Rattle.candidates.specs.declared.slot.Slot.{Slot}
use Rattle.candidates.specs.declared.rounds.Best.{Best}
use Rattle.candidates.specs.Slot.{View, frame, is_none, is_own, station_of, earlier}
use Rattle.candidates.specs.Window.{picked}

-- ---- a slot's state by the lowest level of its times

-- the level of a holder, our own position being known
unfoldable pub level : View → ℕ → ℕ
level v h = pick (is_none h) top (pick (is_own h) own_level (pick (is_record h) (level_of v.ship (station_of v.reg h)) base_level))

-- the worth of a slot by the lowest level of its times, and whether the slot a frame earlier is own
unfoldable pub worth_by : Bool → ℕ → ℕ
worth_by t low = pick t 0 (pick (eqb low top) top (low - held_off_level))

-- ---- a slot as the book has it

-- the slot i of a window, none of the best up to the level `bound`; nothing is to be looked at where the slot a frame earlier is own
unfoldable pub slot_of : List ℕ → Window → Ship → ℕ → ℕ → Slot
slot_of slots w p bound i =
    record {
      from = place w.present (w.first + i);
      times = pick (earlier slots w.present (w.first + i)) 0 (w.timeout + 1);
      bound = bound;
      earlier = earlier slots w.present (w.first + i);
      ship = p;
    }

-- all times of a slot are nobody's, and the slot a frame earlier is not own
unfoldable pub free_at : List ℕ → ℕ → ℕ → ℕ → Bool
free_at slots present at m = both (not (earlier slots present at)) (every (λ i. is_none (frame slots present at i)) (m + 1))

unfoldable pub free_in : List ℕ → Window → ℕ → Bool
free_in slots w i = free_at slots w.present (w.first + i) w.timeout

-- how many slots of a window are free: counting stops at four
unfoldable pub free_upto_four : List ℕ → Window → ℕ
free_upto_four slots w = min 4 (how_many (free_in slots w) w.width)

-- ---- a holder's record, looked up

-- the level of the holder h with the record s
unfoldable pub level_by : Station → ℕ → Slot → ℕ
level_by s h x = pick (is_none h) top (pick (is_own h) own_level (pick (is_record h) (level_of x.ship s) base_level))

unfoldable pub level_at : List Station → ℕ → Slot → ℕ
level_at reg h x = level_by (get_or reg (record_at h) blank) h x

-- ---- the lowest level of a slot's holders

-- the holder of the slot's time i
unfoldable pub held_in : List ℕ → Slot → ℕ → ℕ
held_in slots x i = get_or slots ((x.from + frame_slots * i) % slot_times) 0

-- the frame before has the same holder
unfoldable pub stays : List ℕ → Slot → ℕ → Bool
stays slots x i = both (ltb 0 i) (eqb (held_in slots x i) (held_in slots x (i - 1)))

-- who is to be looked at: nobody where the slot is low enough already, or where the frame before has the same holder
unfoldable pub holder_in : List ℕ → Slot → ℕ → ℕ → ℕ
holder_in slots x low i = pick (either (leb low x.bound) (stays slots x i)) 0 (held_in slots x i)

unfoldable pub slot_level : List Station → List ℕ → Slot → ℕ
slot_level reg slots x = folded top (holder_in slots x) (λ h. level_at reg h x) (λ low h l i. min low l) x.times

-- ---- the draw, by the book, the number of free slots and the four best keys

unfoldable pub none_yet : Best
none_yet = record { first = 0; second = 0; third = 0; fourth = 0 }

-- up to this level a slot is none of the best: it is barred, or nearer than the fourth
unfoldable pub bound_of : Best → ℕ
bound_of b = held_off_level + (b.fourth / 512 - 1)

-- the slot i is that of the key k: a key ends in 511 - i
unfoldable pub key_hits : ℕ → ℕ → Bool
key_hits k i = both (ltb 0 k) (eqb (511 - k % 512) i)

-- it is one of the best, as many as are needed beside f free ones
unfoldable pub reused_by : ℕ → Best → ℕ → Bool
reused_by f b i =
    pick (ltb 3 f) false
    (pick (key_hits b.first i) true
    (pick (ltb 2 f) false
    (pick (key_hits b.second i) true
    (pick (ltb 1 f) false
    (pick (key_hits b.third i) true
    (pick (ltb 0 f) false
    (key_hits b.fourth i)))))))

unfoldable pub candidate_by : List ℕ → Window → ℕ → Best → ℕ → Bool
candidate_by slots w f b i = either (reused_by f b i) (free_in slots w i)

unfoldable pub drawn : List ℕ → Window → ℕ → Best → ℕ → Result Picked Refusal
drawn slots w f b d = picked w.first (those (candidate_by slots w f b) 0 w.width) d
