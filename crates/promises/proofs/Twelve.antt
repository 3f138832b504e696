-- Document 01's marked examples hold.
-- Assumes nothing.
use mathlib.Core.Path.{◌≡◌, refl, ap, ap₂, ◌∙◌}
use mathlib.Core.Bool.{Bool, true, false}
use mathlib.Core.List.{[], ◌∷◌, ◌++◌}
use Prim.Native.Nat.{ℕ, ◌+◌, ◌*◌, ◌/◌, ◌%◌, ◌<◌}
use native.Mathlib.Decide.{dec_lt}
use native.Mathlib.Omega.{arith}
use borrow.Author.Tests.{eq-eqb, ne_eqb, le-leb, lt-leb, lt-ltb, le-ltb}
use lib.Dec.{eqb, leb, ltb}
use lib.ListN.{length, get_or}
use Rattle.laws.specs.Tests.{pick, both, either, between}
use Rattle.laws.specs.Counting.{one}
use Rattle.laws.specs.Ranges.{how_many, those, some}
use Rattle.laws.proofs.Tests.{both-no, either-false}
use Rattle.plan.specs.Plan.{along, nominal, half, slots, floor_gap, ceil_gap, after, gap}
use Rattle.message.specs.Signs.{signed_of}
use Rattle.message.specs.State.{slots_of, distance_of}
use Rattle.announcing.specs.declared.rows.Kind.TheVariants.{Mark}
use Rattle.announcing.specs.Rows.{in_run, has_time, marks_time, frees_time}
use Rattle.announcing.specs.Announce.{block, every_frame, announces}
use Rattle.limits.specs.Limits.{frame_slots}
use Rattle.distance.specs.Distance.{we_known}
use Rattle.std.specs.declared.result.Result.TheVariants.{Ok, Err}
use Rattle.numbers.specs.declared.Refusal.TheVariants.{DrawBack}
use Rattle.candidates.specs.Window.{at, is_free, is_available, free, ahead, outranks, rank, candidate, candidates}
use Rattle.candidates.specs.Choice.{candidates_in, choice}
use Rattle.candidates.specs.Slot.{SlotState, Own, Earlier, Free, OwnUnknown, Base, Unknown, HeldOff, Far}
use Rattle.candidates.proofs.Draws.{picked-at, picked-back}
use Rattle.candidates.proofs.Levels.{lost-cases}
use Rattle.register.specs.State.{State}
use Rattle.register.specs.Answers.{Said}
use Rattle.choosing.specs.declared.Wanted.{Wanted}
use Rattle.choosing.specs.ChoosePromises.{view_in, window_in, slot_is, candidates_of, with_draw}
use Rattle.choosing.proofs.Chosen.{said_of}
use Rattle.choosing.proofs.Draws.{said-of, equal-draws, none-exactly, held-only-under-four}
use Rattle.promises.specs.Examples.{
  AllHold,
  gaps_of,
  figures,
  example1,
  example2,
  example3,
  example4,
  example5,
  example6,
  example7,
  example8,
  example9,
  example10,
  example11,
  example12,
  MarkedExamples,
}
use Rattle.promises.specs.Examples.Claims.{none, also}

-- ---- the plan

holds1 : example1
unfolding along nominal after gap gaps_of
holds1 = refl

holds2 : example2
unfolding half slots floor_gap ceil_gap figures
holds2 = refl

holds3 : example3
unfolding half slots floor_gap ceil_gap figures
holds3 = refl

holds4 : example4
unfolding half slots floor_gap ceil_gap figures
holds4 = refl

-- ---- the draw

module _ (s : State) (a : Wanted) (n : candidates_of s a ≡ 33) where
  -- so many draws are taken
  taken : candidates_of s a * (65536 / candidates_of s a) ≡ 65505
  taken = ap (λ m. m * (65536 / m)) n

  last : choice (view_in s) (window_in s a) 65504 ≡ Ok (at ((window_in s a).first + get_or (candidates_in (view_in s) (window_in s a)) 32 0) 33)
  unfolding choice
  last =
      let cs = candidates_in (view_in s) (window_in s a) in
      let k : 65504 % length cs ≡ 32 = ap (λ m. 65504 % m) n in
      picked-at (window_in s a).first cs 65504 (omega (arith, n)) (omega (arith, taken))
      ∙ ap (λ j. Ok (at ((window_in s a).first + get_or cs j 0) (length cs))) k ∙ ap (λ m. Ok (at ((window_in s a).first + get_or cs 32 0) m)) n

  back : choice (view_in s) (window_in s a) 65505 ≡ Err DrawBack
  unfolding choice
  back = picked-back (window_in s a).first (candidates_in (view_in s) (window_in s a)) 65505 (omega (arith, n)) (omega (arith, taken))

holds5 : example5
holds5 s a r n =
    let chosen = said-of s a r 65504 ∙ ap (said_of s (with_draw a 65504)) (last s a n) in
    let sent = said-of s a r 65505 ∙ ap (said_of s (with_draw a 65505)) (back s a n) in
    record {
      taken = ap (λ (t : Said). t.number) chosen;
      slot = ap (λ (t : Said). get_or t.values 0 0) chosen;
      number = ap (λ (t : Said). get_or t.values 2 0) chosen;
      back = ap (λ (t : Said). t.number) sent;
    }

holds6 : example6
holds6 s a i r n c = equal-draws s a i r c ∙ ap (λ m. 65536 / m) n

-- ---- messages

holds7 : example7
unfolding signed_of
holds7 = (refl, refl)

-- the times of a run from a on: none, one, three
run_none : (a d : ℕ) → both (leb a d) (ltb d (a + 0)) ≡ false
run_none a d = go (dec_lt d a)
  where
    go : Dec (d < a) → both (leb a d) (ltb d (a + 0)) ≡ false
    go (yes l) = simp (lt-leb a d l)
    go (no l) = ap (both (leb a d)) (le-ltb d (a + 0) (omega arith)) ∙ both-no (leb a d)

run-one : (a d : ℕ) → both (leb a d) (ltb d (a + 1)) ≡ eqb d a
run-one a d = go (dec_lt d a) (dec_lt a d)
  where
    go : Dec (d < a) → Dec (a < d) → both (leb a d) (ltb d (a + 1)) ≡ eqb d a
    go (yes l) g = simp (lt-leb a d l, ne_eqb d a (λ e. omega arith))
    go (no l) (yes g) = simp (le-leb a d (omega arith), le-ltb d (a + 1) (omega arith), ne_eqb d a (λ e. omega arith))
    go (no l) (no g) = simp (le-leb a d (omega arith), lt-ltb d (a + 1) (omega arith), eq-eqb d a (omega arith))

run-three : (a d : ℕ) → both (leb a d) (ltb d (a + 3)) ≡ between a (a + 2) d
run-three a d = ap (both (leb a d)) (go (dec_lt d (a + 3)))
  where
    go : Dec (d < a + 3) → ltb d (a + 3) ≡ leb d (a + 2)
    go (yes l) = simp (lt-ltb d (a + 3) l, le-leb d (a + 2) (omega arith))
    go (no l) = simp (le-ltb d (a + 3) (omega arith), lt-leb d (a + 2) (omega arith))

-- n slots from a on, and what is kept
module _ (a n d : ℕ) where
  block-time : has_time (block a n) d ≡ both (leb a d) (ltb d (a + n))
  unfolding has_time in_run some
  block-time = let at : a + 0 + 0 ≡ a = omega arith in ap (λ (x : ℕ). both (leb x d) (ltb d (x + n))) at

  kept-time : has_time (every_frame 1 1 Mark) d ≡ eqb d frame_slots
  unfolding has_time in_run some
  kept-time = run-one frame_slots d

  kept_and : (z t : Bool) → both (leb a d) (ltb d (a + n)) ≡ t
      → let rows = pick z (every_frame 1 1 Mark ∷ []) [] ++ (block a n ∷ []) in
      (marks_time rows d ≡ either (both z (eqb d frame_slots)) t) × (frees_time rows d ≡ false)
  kept_and true t e = (ap₂ either kept-time (either-false (has_time (block a n) d) ∙ block-time ∙ e), refl)
  kept_and false t e = (either-false (has_time (block a n) d) ∙ block-time ∙ e, refl)

holds8 : example8
unfolding slots_of distance_of announces
holds8 sync keep d = kept_and 8193 1 d (eqb keep 1) (eqb d 8193) (run-one 8193 d)

holds9 : example9
unfolding slots_of distance_of announces
holds9 sync keep d = kept_and 16383 3 d (eqb keep 1) (between 16383 16385 d) (run-three 16383 d)

holds10 : example10
unfolding slots_of distance_of announces
holds10 sync keep d = kept_and 8192 0 d (eqb keep 1) false (run_none 8192 d)

-- ---- the rule of four

holds11 : example11
unfolding candidates candidate rank free outranks ahead is_free is_available how_many those one
holds11 = refl

-- 1 where a slot is available
abbrev far : SlotState → ℕ
far Own = 0
far Earlier = 0
far Free = 0
far OwnUnknown = 0
far Base = 0
far Unknown = 0
far HeldOff = 0
far (Far d) = 1

-- none is where our own position is not known
never-far : (s : State) (a : Wanted) (i d : ℕ) → we_known s.watch.ship ≡ false → slot_is s a i ≡ Far d → ⊥
never-far s a i d k e =
    let w = window_in s a in
    omega (arith, ap far e, lost-cases (view_in s) w.present (w.first + i) w.timeout k (λ (t : SlotState). far t ≡ 0) refl refl refl refl)

holds12 : example12
holds12 s a r k held =
    (none-exactly s a).1 (r, λ i c. never-far s a i _ k (held-only-under-four s a i c (held i c.inside)).far)

from-seven : AllHold (also example7 (also example8 (also example9 (also example10 (also example11 (also example12 none))))))
from-seven = (holds7, (holds8, (holds9, (holds10, (holds11, (holds12, tt))))))

pub marked-examples : MarkedExamples
marked-examples = (holds1, (holds2, (holds3, (holds4, (holds5, (holds6, from-seven))))))
