-- Document 01's marked examples, as a single list under a single claim.
-- Assumes nothing.
use Rattle.std.specs.Prelude.{ℕ, zero, suc, ◌+◌, ◌-◌, ◌*◌, ◌^◌, ◌<◌, ◌≡◌, Bool, false, List, [], ◌∷◌, eqb, negsuc, get_or}
use Rattle.laws.specs.Tests.{pick, both, either, between}
use Rattle.laws.specs.Ranges.{how_many}
use Rattle.limits.specs.Limits.{frame_slots}
use Rattle.plan.specs.declared.Plan.{Plan}
use Rattle.plan.specs.Plan.{nominal, half, slots, floor_gap, ceil_gap, gap}
use Rattle.message.specs.declared.state.State.TheVariants.{Incremental as Increasing}
use Rattle.message.specs.Signs.{signed_of}
use Rattle.announcing.specs.Rows.{marks_time, frees_time}
use Rattle.announcing.specs.Announce.{announces}
use Rattle.ship.specs.Ship.{known_place}
use Rattle.candidates.specs.Slot.{SlotState, Free, Far}
use Rattle.candidates.specs.Window.{worth, candidates}
use Rattle.candidates.specs.Choice.{candidates_in}
use Rattle.register.specs.State.{State}
use Rattle.register.specs.Answers.{Said, said, given_number}
use Rattle.choosing.specs.declared.Wanted.{Wanted}
use Rattle.choosing.specs.Choose.{choose}
use Rattle.choosing.specs.ChoosePromises.{view_in, window_in, slot_is, CandidateIn, candidates_of, Draws, with_draw, is_slot}

-- a list of claims, and that all of them hold
pub data Claims : Type 1 where
  none : Claims
  also : Type 0 → Claims → Claims

abbrev pub AllHold : Claims → Type 0
AllHold none = Unit {0}
AllHold (also c cs) = c × AllHold cs

-- ---- words for the plan

abbrev plan_at : ℕ → ℕ → Plan
plan_at r s = record { rate = r; start = s }

-- how many of the gaps 0 to n - 1 are g
unfoldable pub gaps_of : Plan → ℕ → ℕ → ℕ
gaps_of p g zero = 0
gaps_of p g (suc n) = gaps_of p g n + pick (eqb (gap p n) g) 1 0

-- h, the slots of a window, and the least and greatest distance between slots of neighbouring windows
unfoldable pub figures : Plan → List ℕ
figures p = half p ∷ slots p ∷ (floor_gap p - 2 * half p) ∷ (ceil_gap p + 2 * half p) ∷ []

-- ---- words for a message

-- a message 3 with this slots code and increment, at any sync and keep, marks these times ahead, and with keep 1 the one a frame ahead; it frees none
abbrev announcing : ℕ → ℕ → (ℕ → Bool) → Type 0
announcing code increment times =
    (sync keep d : ℕ)
    → let rows = announces (Increasing (record { sync = sync; increment = increment; code = code; keep = keep })) in
    (marks_time rows d ≡ either (both (eqb keep 1) (eqb d frame_slots)) (times d)) × (frees_time rows d ≡ false)

-- ---- words for the choice

-- what is said where the draw d is given
abbrev said_at : State → Wanted → ℕ → Said
said_at s a d = said (choose s (with_draw a d)).answer

-- the draw 65,504 is answered with the last of the 33 candidates, and 65,505 with 34
pub record LastDraw (s : State) (a : Wanted) : Type 0 where
  pub taken : (said_at s a 65504).number ≡ 0
  pub slot : get_or (said_at s a 65504).values 0 0 ≡ (window_in s a).first + get_or (candidates_in (view_in s) (window_in s a)) 32 0
  pub number : get_or (said_at s a 65504).values 2 0 ≡ 33
  pub back : (said_at s a 65505).number ≡ 34

-- the worths of a list of states
abbrev pub worths_of : List SlotState → ℕ → ℕ
worths_of [] i = 0
worths_of (s ∷ l) zero = worth s
worths_of (s ∷ l) (suc i) = worths_of l i

-- ---- the examples

-- 1. r 14, s 0: slots 0, 160, 321, 482; k 13 gives 2089; ten gaps of 161, four of 160
abbrev pub example1 : Type 0
example1 =
    (nominal (plan_at 14 0) 0 ∷ nominal (plan_at 14 0) 1 ∷ nominal (plan_at 14 0) 2 ∷ nominal (plan_at 14 0) 3 ∷ nominal (plan_at 14 0) 13
    ∷ gaps_of (plan_at 14 0) 161 14 ∷ gaps_of (plan_at 14 0) 160 14 ∷ [])
    ≡ 0 ∷ 160 ∷ 321 ∷ 482 ∷ 2089 ∷ 10 ∷ 4 ∷ []

-- 2. r 30: h 7, 15 slots, distances 61 to 89
abbrev pub example2 : Type 0
example2 = figures (plan_at 30 0) ≡ 7 ∷ 15 ∷ 61 ∷ 89 ∷ []

-- 3. r 14: h 16, distances 128 to 193
abbrev pub example3 : Type 0
example3 = figures (plan_at 14 0) ≡ 16 ∷ 33 ∷ 128 ∷ 193 ∷ []

-- 4. r 1: h 225, 451 slots, distances 1800 to 2700
abbrev pub example4 : Type 0
example4 = figures (plan_at 1 0) ≡ 225 ∷ 451 ∷ 1800 ∷ 2700 ∷ []

-- 5. 33 candidates: draw 65,504 taken, 65,505 sent back
abbrev pub example5 : Type 0
example5 = (s : State) (a : Wanted) → Draws s a → candidates_of s a ≡ 33 → LastDraw s a

-- 6. 4 candidates: each has 16,384 draws
abbrev pub example6 : Type 0
example6 =
    (s : State) (a : Wanted) (i : ℕ) → Draws s a → candidates_of s a ≡ 4 → CandidateIn s a i
    → how_many (λ d. is_slot ((window_in s a).first + i) (said (choose s (with_draw a d)).answer)) 65536 ≡ 16384

-- 7. longitude field all ones: -1; high bit only: -134,217,728
abbrev pub example7 : Type 0
example7 = (signed_of 28 (2 ^ 28 - 1) ≡ negsuc 0) × (signed_of 28 (2 ^ 27) ≡ negsuc 134217727)

-- 8. code 5, increment 1: one slot, 8,193 ahead
abbrev pub example8 : Type 0
example8 = announcing 5 1 (λ d. eqb d 8193)

-- 9. code 7, increment 8191: 16,383 to 16,385 ahead
abbrev pub example9 : Type 0
example9 = announcing 7 8191 (λ d. between 16383 16385 d)

-- 10. code 5, increment 0: nothing
abbrev pub example10 : Type 0
example10 = announcing 5 0 (λ d. false)

-- 11. two free; A at 900 has one slot, B at 500 two: candidates are both free ones, A's, B's earlier
abbrev pub example11 : Type 0
example11 = candidates (worths_of (Far 500 ∷ Free ∷ Far 900 ∷ Far 500 ∷ Free ∷ [])) 5 ≡ 0 ∷ 1 ∷ 2 ∷ 4 ∷ []

-- 12. no free slot, own position unknown: 33
abbrev pub example12 : Type 0
example12 =
    (s : State) (a : Wanted) → Draws s a → known_place s.watch.ship.latitude s.watch.ship.longitude ≡ false
    → ((i : ℕ) → i < (window_in s a).width → slot_is s a i ≡ Free → ⊥) → given_number (choose s a) ≡ 33

abbrev pub marked : Claims
marked =
    also example1 (also example2 (also example3 (also example4 (also example5 (also example6
    (also example7 (also example8 (also example9 (also example10 (also example11 (also example12 none)))))))))))

abbrev pub MarkedExamples : Type 0
MarkedExamples = AllHold marked
