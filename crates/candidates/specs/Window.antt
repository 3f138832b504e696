-- The candidates of a window, and the one that a draw picks. ws: the worth of each of the window's n slots, in time order. A slot's worth is 0
-- if it can be no candidate, d + 1 if it is available and its nearest holder is at the distance d, top if it is free.
-- Assumes nothing.
use Rattle.std.specs.Prelude.{ℕ, ◌+◌, ◌-◌, ◌*◌, ◌/◌, ◌%◌, Bool, false, List, length, get_or, eqb, ltb, Ok, Err}
use Rattle.std.specs.declared.result.Result.{Result}
use Rattle.laws.specs.Tests.{pick, both, either}
use Rattle.laws.specs.Ranges.{how_many, those}
use Rattle.distance.specs.Distance.{top}
use Rattle.numbers.specs.declared.Refusal.{Refusal}
use Rattle.numbers.specs.declared.Refusal.TheVariants.{NoCandidate, DrawBack}
use Rattle.numbers.specs.Numbers.{number_of}
use Rattle.candidates.specs.declared.Picked.{Picked}
use Rattle.candidates.specs.Slot.{SlotState, Own, Earlier, Free, OwnUnknown, Base, Unknown, HeldOff, Far}

abbrev pub worth : SlotState → ℕ
worth Own = 0
worth Earlier = 0
worth Free = top
worth OwnUnknown = 0
worth Base = 0
worth Unknown = 0
worth HeldOff = 0
worth (Far d) = d + 1

unfoldable pub is_free : ℕ → Bool
is_free w = eqb w top

unfoldable pub is_available : ℕ → Bool
is_available w = both (ltb 0 w) (ltb w top)

-- the free slots of a window, and the available ones
unfoldable pub free : (ℕ → ℕ) → ℕ → ℕ
free ws n = how_many (λ i. is_free (ws i)) n

unfoldable pub available : (ℕ → ℕ) → ℕ → ℕ
available ws n = how_many (λ i. is_available (ws i)) n

-- the slot i with the worth w is available, and is farther than the slot j with the worth v, or as far and earlier
unfoldable pub ahead : ℕ → ℕ → ℕ → ℕ → Bool
ahead v j w i = both (is_available w) (either (ltb v w) (both (eqb w v) (ltb i j)))

unfoldable pub outranks : (ℕ → ℕ) → ℕ → ℕ → Bool
outranks ws j i = ahead (ws j) j (ws i) i

unfoldable pub rank : (ℕ → ℕ) → ℕ → ℕ → ℕ
rank ws n j = how_many (outranks ws j) n

-- all free slots, and where they are fewer than four, the available ones that make four: those of rank below 4 - free
unfoldable pub candidate : (ℕ → ℕ) → ℕ → ℕ → Bool
candidate ws n j = either (is_free (ws j)) (both (is_available (ws j)) (ltb (rank ws n j) (4 - free ws n)))

unfoldable pub candidates : (ℕ → ℕ) → ℕ → List ℕ
candidates ws n = those (candidate ws n) 0 n

-- the slot x ahead, one of n candidates
abbrev pub at : ℕ → ℕ → Picked
at x n = record { distance = x; candidates = n }

-- the draw d among the candidates cs, counted from the window's first slot, which is a ahead
unfoldable pub picked : ℕ → List ℕ → ℕ → Result Picked Refusal
picked a cs d =
    pick (eqb (length cs) 0) (Err NoCandidate)
    (pick (ltb d (length cs * (65536 / length cs))) (Ok (at (a + get_or cs (d % length cs) 0) (length cs))) (Err DrawBack))

-- ---- what came of a draw

-- no candidate; sent back
abbrev pub is_no : Result Picked Refusal → Bool
is_no (Ok p) = false
is_no (Err r) = eqb (number_of r) (number_of NoCandidate)

abbrev pub is_back : Result Picked Refusal → Bool
is_back (Ok p) = false
is_back (Err r) = eqb (number_of r) (number_of DrawBack)

-- the slot that is picked, and out of how many
abbrev pub distance_in : Result Picked Refusal → ℕ
distance_in (Ok p) = p.distance
distance_in (Err r) = 0

abbrev pub number_in : Result Picked Refusal → ℕ
number_in (Ok p) = p.candidates
number_in (Err r) = 0

-- ---- what the theorems speak of

-- the answer is the slot x ahead
abbrev pub is_at : ℕ → Result Picked Refusal → Bool
is_at x (Ok p) = eqb p.distance x
is_at x (Err r) = false
