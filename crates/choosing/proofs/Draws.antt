-- The draw of the call that chooses, over all draws and both ways, and the rule of four, on register and book.
-- Assumes nothing.
use mathlib.Core.Path.{◌≡◌, refl, sym, ap, ◌∙◌}
use mathlib.Core.Bool.{Bool, true, not, true≢false}
use mathlib.Core.List.{List}
use Prim.Native.Nat.{ℕ, zero, suc, ◌+◌, ◌≤◌}
use native.Mathlib.Numerals.{add-one}
use native.Mathlib.Omega.{arith}
use borrow.Author.Tests.{eq-eqb}
use lib.Dec.{eqb}
use Rattle.laws.specs.Ranges.{how_many, every}
use Rattle.laws.proofs.Tests.{by-test, both_left, both_right}
use Rattle.laws.proofs.Sums.{one-false}
use Rattle.laws.proofs.Ladder.{stops-there}
use Rattle.distance.specs.Distance.{top}
use Rattle.std.specs.declared.result.Result.{Result}
use Rattle.std.specs.declared.result.Result.TheVariants.{Ok, Err}
use Rattle.numbers.specs.declared.Refusal.{Refusal}
use Rattle.numbers.specs.declared.Refusal.TheVariants.{NoCandidate}
use Rattle.candidates.specs.declared.Picked.{Picked}
use Rattle.candidates.specs.declared.Window.{Window}
use Rattle.candidates.specs.Slot.{SlotState, Free, View, is_none, earlier, frame, state_of}
use Rattle.candidates.specs.Scanning.{free_at}
use Rattle.candidates.specs.Window.{worth, is_free, is_back, is_at}
use Rattle.candidates.specs.Choice.{choice}
use Rattle.candidates.proofs.Levels.{free-worth}
use Rattle.candidates.proofs.Promised as candidates
use Rattle.register.specs.State.{State}
use Rattle.register.specs.Answers.{Said, said, given_number}
use Rattle.choosing.specs.declared.Wanted.{Wanted}
use Rattle.choosing.specs.Choosing.{ask_fits, window_meant}
use Rattle.choosing.specs.Choose.{drawn_in, replaced_in, choose_tests, choose}
use Rattle.choosing.specs.ChoosePromises.{
  view_in,
  window_in,
  slot_is,
  Draws,
  with_draw,
  is_slot,
  ChoseRightly,
  EqualDraws,
  RestSentBack,
  NoneExactly,
  FreeAreCandidates,
  HeldOnlyUnderFour,
  ReuseUnderFour,
  FarthestFirst,
  TiesToTheEarlier,
  NumberOfCandidates,
}
use Rattle.choosing.proofs.Meaning.{narrow}
use Rattle.choosing.proofs.Choosing.{choice-cases}
use Rattle.choosing.proofs.Chosen.{choose-exactly, comes-to-draw, said_of, draw-says, chosen-is-candidate}

-- ---- what is said, as tests on what is drawn

module _ (s : State) (a : Wanted) where
  says_slot : (x : ℕ) (v : View) (w : Window) (d : ℕ) → is_slot x (said_of s a (choice v w d)) ≡ is_at x (choice v w d)
  says_slot x = choice-cases (λ p. is_slot x (said_of s a p) ≡ is_at x p) (λ p. refl) refl refl

  says_back : (p : Result Picked Refusal) → eqb (said_of s a p).number 34 ≡ is_back p
  says_back (Ok p) = refl
  says_back (Err r) = refl

  says_none : (v : View) (w : Window) (d : ℕ) → (said_of s a (choice v w d)).number ≡ 33 → choice v w d ≡ Err NoCandidate
  says_none =
      choice-cases (λ p. (said_of s a p).number ≡ 33 → p ≡ Err NoCandidate) (λ p e. absurd (omega arith)) (λ e. refl) (λ e. absurd (omega arith))

-- ---- all draws

module _ (s : State) (a : Wanted) (r : Draws s a) where
  -- whether the call comes to the draw does not go by the draw
  redrawn : (d : ℕ) → Draws s (with_draw a d)
  unfolding ask_fits
  redrawn d = record { sizes = r.sizes; planned = r.planned; asked = r.asked; unmarked = r.unmarked }

  -- what is said of the draw d
  pub said-of : (d : ℕ) → said (choose s (with_draw a d)).answer ≡ said_of s (with_draw a d) (choice (view_in s) (window_in s a) d)
  said-of d = draw-says s (with_draw a d) (redrawn d)

  slot-drawn : (x d : ℕ) → is_slot x (said (choose s (with_draw a d)).answer) ≡ is_at x (choice (view_in s) (window_in s a) d)
  slot-drawn x d = ap (is_slot x) (said-of d) ∙ says_slot s (with_draw a d) x (view_in s) (window_in s a) d

  back-drawn : (d : ℕ) → eqb (given_number (choose s (with_draw a d))) 34 ≡ is_back (choice (view_in s) (window_in s a) d)
  back-drawn d = ap (λ (t : Said). eqb t.number 34) (said-of d) ∙ says_back s (with_draw a d) (choice (view_in s) (window_in s a) d)

pub equal-draws : EqualDraws
equal-draws s a i r c =
    (λ j. how_many (λ d. slot-drawn s a r ((window_in s a).first + i) d j) 65536) ∙ candidates.equal-draws-each (view_in s) (window_in s a) i c

pub rest-sent-back : RestSentBack
rest-sent-back s a r some =
    (λ j. how_many (λ d. back-drawn s a r d j) 65536) ∙ candidates.rest-sent-back (view_in s) (window_in s a) some

pub none-exactly : NoneExactly
unfolding choose_tests
none-exactly s a =
    let none = candidates.none-exactly (view_in s) (window_in s a) a.draw in
    let number : Draws s a → given_number (choose s a) ≡ (said_of s a (drawn_in s a)).number = λ r. ap (λ (t : Said). t.number) (draw-says s a r) in (
      (λ e.
          let draws = comes-to-draw s a (stops-there _ _ 33 4 (omega arith) tt (((choose-exactly s a).given 33 (omega arith)).0 e)) in
          (draws, none.0 (says_none s a _ _ _ (sym (number draws) ∙ e)))),
      (λ h. number h.0 ∙ ap (λ (p : Result Picked Refusal). (said_of s a p).number) (none.1 h.1)),
    )

-- ---- the rule of four

pub free-are-candidates : FreeAreCandidates
free-are-candidates s a = candidates.free-are-candidates (view_in s) (window_in s a)

pub held-only-under-four : HeldOnlyUnderFour
held-only-under-four s a i c held =
    let h = candidates.held-only-under-four (view_in s) (window_in s a) i c held in
    record { distance = h.distance; far = h.far; few = h.few }

-- the window meant is narrow enough for the order by distance
fits : (s : State) (a : Wanted) → (window_in s a).width ≤ 512
fits s a = omega (arith, narrow s.watch.present s.watch.channel.plan a.k a.timeout (window_in s a) refl)

pub farthest-first : FarthestFirst
farthest-first s a i j d e = candidates.farthest-first (view_in s) (window_in s a) i j d e (fits s a)

pub ties-to-the-earlier : TiesToTheEarlier
ties-to-the-earlier s a i j d = candidates.ties-to-the-earlier (view_in s) (window_in s a) i j d (fits s a)

pub number-of-candidates : NumberOfCandidates
number-of-candidates s a = candidates.number-of-candidates (view_in s) (window_in s a) (fits s a)

-- ---- a mark is replaced

-- where every number passes, none does not
none-fails : (p : ℕ → Bool) (n : ℕ) → every p n ≡ true → how_many (λ i. not (p i)) n ≡ 0
unfolding every how_many
none-fails p zero e = refl
none-fails p (suc n) e =
    omega (arith, none-fails p n (both_left (every p n) (p n) e), one-false (ap not (both_right (every p n) (p n) e)))

-- a free slot has no mark to be replaced
none-replaced : (slots : List ℕ) (present at m : ℕ) → free_at slots present at m ≡ true → replaced_in slots present at (suc m) ≡ 0
unfolding free_at replaced_in
none-replaced slots present at m e =
    let all = both_right (not (earlier slots present at)) (every (λ i. is_none (frame slots present at i)) (m + 1)) e in
    none-fails (λ i. is_none (frame slots present at i)) (suc m) (sym (ap (every (λ i. is_none (frame slots present at i))) (add-one m)) ∙ all)

-- the state says that it is free only if it is
state-free : (v : View) (present at m : ℕ) → state_of v present at m ≡ Free → free_at v.slots present at m ≡ true
unfolding is_free
state-free v present at m e = free-worth v present at m ∙ ap (λ (t : SlotState). is_free (worth t)) e ∙ eq-eqb top top refl

pub reuse-under-four : ReuseUnderFour
unfolding window_meant
reuse-under-four s a x slot n m e more =
    by-test (free_at s.book s.watch.present x a.timeout)
    (λ free. absurd (omega (arith, c.counted, none-replaced s.book s.watch.present x a.timeout free)))
    (λ held. (held-only-under-four s a c.picks.slot c.picks.candidate (λ f. true≢false (sym (free-there f) ∙ held))).few)
  where
    c : ChoseRightly s a x slot n m
    c = chosen-is-candidate s a x slot n m e

    free-there : slot_is s a c.picks.slot ≡ Free → free_at s.book s.watch.present x a.timeout ≡ true
    free-there f =
        state-free (view_in s) s.watch.present x a.timeout
        (ap (λ (at : ℕ). state_of (view_in s) s.watch.present at a.timeout) c.picks.there ∙ f)
