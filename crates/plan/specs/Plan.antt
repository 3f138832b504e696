-- The plan of own reports, in slot numbers: nominal slots, windows, and the gaps between neighbouring nominal slots.
-- Assumes nothing.
use Rattle.std.specs.Prelude.{ℕ, zero, suc, ◌+◌, ◌-◌, ◌*◌, ◌/◌, ◌%◌, ◌≤◌, ◌<◌, Option, MatchOption}
use Rattle.limits.specs.Limits.{frame_slots, most_rate, tenth}
use Rattle.plan.specs.declared.Plan.{Plan}

-- a plan in its range; any other counts as none
pub record InRange (p : Plan) : Type 0 where
  pub some : 1 ≤ p.rate
  pub most : p.rate ≤ most_rate
  pub starts : p.start < frame_slots

-- how many slots after the start the nominal slot k lies: floor(2250 k / r). Rounded once, after the product, so that nothing adds up
unfoldable pub along : Plan → ℕ → ℕ
along p k = frame_slots * k / p.rate

-- the nominal slot k
unfoldable pub nominal : Plan → ℕ → ℕ
nominal p k = (p.start + along p k) % frame_slots

-- how far a window reaches to each side: floor(225 / r)
unfoldable pub half : Plan → ℕ
half p = tenth / p.rate

-- the number of slots of a window
unfoldable pub slots : Plan → ℕ
slots p = 2 * half p + 1

-- the first slot of the window of k
unfoldable pub first : Plan → ℕ → ℕ
first p k = (nominal p k + frame_slots - half p) % frame_slots

-- ---- the window that a slot lies in

-- the slots since the slot number a was last met, at the slot number n: 0 to 2249
abbrev pub since : ℕ → ℕ → ℕ
since a n = (n + frame_slots - a) % frame_slots

-- the slot number n is one of the window of k
pub record InWindow (p : Plan) (k n : ℕ) : Type 0 where
  pub known : k < p.rate
  pub near : since (first p k) n < slots p

-- what is told of the slot number n is so: a window that it lies in, or that it lies in none
abbrev pub Tells : Plan → ℕ → Option ℕ → Type 0
Tells p n r = MatchOption r ((k : ℕ) → InWindow p k n → ⊥) (λ k. InWindow p k n)

-- ---- gaps

-- floor(2250 / r) and ceil(2250 / r)
unfoldable pub floor_gap : Plan → ℕ
floor_gap p = frame_slots / p.rate

unfoldable pub ceil_gap : Plan → ℕ
ceil_gap p = (frame_slots + (p.rate - 1)) / p.rate

-- the slots from the slot number a on to the next slot with the number b, 1 to 2250: with one report a frame the gap is a frame, not 0
abbrev pub onward : ℕ → ℕ → ℕ
onward a b = (b + (frame_slots - 1) - a) % frame_slots + 1

-- the neighbour of k: k + 1, and 0 after the last one
unfoldable pub after : Plan → ℕ → ℕ
after p k = (k + 1) % p.rate

-- the gap from nominal slot k to its neighbour, and the sum of the gaps of 0 to n - 1
unfoldable pub gap : Plan → ℕ → ℕ
gap p k = onward (nominal p k) (nominal p (after p k))

abbrev pub gaps : Plan → ℕ → ℕ
gaps p zero = 0
gaps p (suc n) = gaps p n + gap p n
