-- What is promised of the choice (specs/Promises.antt).
-- Assumes nothing.
use mathlib.Core.Path.{◌≡◌, refl, sym, ap, ◌∙◌}
use mathlib.Core.Bool.{true}
use Prim.Native.Nat.{ℕ, ◌+◌, ◌-◌, ◌*◌, ◌%◌, ◌≤◌, ◌<◌}
use native.Mathlib.Nat.{mod-lt}
use native.Mathlib.Decide.{ℕ_discrete}
use native.Mathlib.Omega.{arith}
use lib.ListN.{length, get_or}
use lib.Dec.{ltb}
use borrow.Author.Tests.{eq-eqb, ne_eqb, ltb-true}
use Rattle.laws.specs.Tests.{both, either}
use Rattle.std.specs.declared.result.Result.{Result}
use Rattle.std.specs.declared.result.Result.TheVariants.{Ok, Err}
use Rattle.numbers.specs.declared.Refusal.{Refusal}
use Rattle.numbers.specs.declared.Refusal.TheVariants.{NoCandidate}
use Rattle.numbers.specs.Numbers.{number_of}
use Rattle.candidates.specs.declared.Window.{Window}
use Rattle.candidates.specs.declared.Picked.{Picked}
use Rattle.distance.specs.Distance.{top}
use Rattle.candidates.specs.Slot.{SlotState, Own, Earlier, Free, OwnUnknown, Base, Unknown, HeldOff, Far, View}
use Rattle.candidates.specs.Window.{worth, is_free, is_available, free, rank, candidate, candidates, distance_in, number_in}
use Rattle.candidates.specs.Rounds.{keys}
use Rattle.candidates.specs.Choice.{worth_in, candidates_in, choice}
use Rattle.candidates.specs.Promises.{
  state_in,
  Candidate,
  Picks,
  Reused,
  PickIsCandidate,
  EqualDraws,
  RestSentBack,
  NoneExactly,
  FreeAreCandidates,
  HeldOnlyUnderFour,
  FarthestFirst,
  TiesToTheEarlier,
  NumberOfCandidates,
}
use Rattle.laws.proofs.Tests.{both_left, both_right}
use Rattle.laws.proofs.Those.{Place, count-those, those-in, those-apart, those-has}
use Rattle.candidates.proofs.Draws.{Draw, none, one-of, back, draw, picked_none, draws-each, draws-back}
use Rattle.candidates.proofs.Levels.{distance_of, near-small}
use Rattle.candidates.proofs.Ranking.{avail-yes, avail-bounds, key-avail, greater-key, count-candidates}

-- ---- the list of the candidates

module _ (v : View) (w : Window) where
  -- each candidate stands in it
  stands : (i : ℕ) → Candidate v w i → Place (candidates_in v w) i
  unfolding candidates_in candidates
  stands i c = those-has (candidate (worth_in v w) w.width) 0 w.width i (omega arith) (omega (arith, c.inside)) c.good

  -- and nothing else
  listed : (k : ℕ) → k < length (candidates_in v w) → Candidate v w (get_or (candidates_in v w) k 0)
  unfolding candidates_in candidates
  listed k l =
      let s = those-in (candidate (worth_in v w) w.width) 0 w.width k l in
      record { inside = omega (arith, s.high); good = s.passes }

  -- none twice
  apart : (k l : ℕ) → k < length (candidates_in v w) → l < length (candidates_in v w)
      → get_or (candidates_in v w) k 0 ≡ get_or (candidates_in v w) l 0 → k ≡ l
  unfolding candidates_in candidates
  apart = those-apart (candidate (worth_in v w) w.width) 0 w.width

-- ---- draws

-- the answers as numbers, to tell them apart
abbrev answer : Result Picked Refusal → ℕ
answer (Ok p) = 0
answer (Err r) = number_of r

pub pick-is-candidate : PickIsCandidate
unfolding choice
pick-is-candidate v w d x n e = go (draw w.first (candidates_in v w) d)
  where
    go : Draw w.first (candidates_in v w) d → Picks v w x n
    go (none z q) = absurd (omega (arith, ap answer (sym q ∙ e)))
    go (back q) = absurd (omega (arith, ap answer (sym q ∙ e)))
    go (one-of p q) =
        let k = d % length (candidates_in v w) in
        let y : x ≡ w.first + get_or (candidates_in v w) k 0 = ap distance_in (sym e ∙ q) in
        let z : n ≡ length (candidates_in v w) = ap number_in (sym e ∙ q) in
        record { slot = get_or (candidates_in v w) k 0; there = y; candidate = listed v w k (mod-lt d p); number = z }

pub equal-draws-each : EqualDraws
unfolding choice
equal-draws-each v w i c =
    let h = stands v w i c in
    rw h.is at (draws-each w.first (candidates_in v w) (apart v w) h.place h.inside)

pub rest-sent-back : RestSentBack
unfolding choice
rest-sent-back v w some = draws-back w.first (candidates_in v w) some

pub none-exactly : NoneExactly
unfolding choice
none-exactly v w d = (λ e i c. only e (stands v w i c), λ f. picked_none w.first (candidates_in v w) d (empty f))
  where
    only : {i : ℕ} → choice v w d ≡ Err NoCandidate → Place (candidates_in v w) i → ⊥
    only e h = go (draw w.first (candidates_in v w) d)
      where
        go : Draw w.first (candidates_in v w) d → ⊥
        go (none z q) = omega (arith, h.inside)
        go (one-of p q) = omega (arith, ap answer (sym q ∙ e))
        go (back q) = omega (arith, ap answer (sym q ∙ e))

    empty : ((i : ℕ) → Candidate v w i → ⊥) → length (candidates_in v w) ≡ 0
    empty f = go (ℕ_discrete (length (candidates_in v w)) 0)
      where
        go : Dec (length (candidates_in v w) ≡ 0) → length (candidates_in v w) ≡ 0
        go (yes e) = e
        go (no n) = absurd (f _ (listed v w 0 (omega arith)))

-- ---- the rule of four

pub free-are-candidates : FreeAreCandidates
unfolding candidate is_free
free-are-candidates v w i l e = record { inside = l; good = simp (eq-eqb (worth_in v w i) top (ap worth e)) }

-- a candidate that is not free is available, and its rank is below 4 - free
held : (ws : ℕ → ℕ) (n i : ℕ) → (ws i ≡ top → ⊥) → candidate ws n i ≡ true → (is_available (ws i) ≡ true) × (rank ws n i < 4 - free ws n)
unfolding candidate is_free
held ws n i f c =
    let a = is_available (ws i) in
    let r = ltb (rank ws n i) (4 - free ws n) in
    let h : both a r ≡ true = sym (ap (λ t. either t (both a r)) (ne_eqb (ws i) top f)) ∙ c in
    (both_left a r h, ltb-true (rank ws n i) (4 - free ws n) (both_right a r h))

module _ (v : View) (w : Window) (i : ℕ) where
  -- a distance is far below top
  far-le : (d : ℕ) → state_in v w i ≡ Far d → d + 5 < top
  far-le d e = omega (arith, ap distance_of e, near-small v w.present (w.first + i) w.timeout)

  module _ (d : ℕ) (far : state_in v w i ≡ Far d) where
    -- it is available ..
    far-available : is_available (worth_in v w i) ≡ true
    far-available =
        let e : worth_in v w i ≡ d + 1 = ap worth far in
        avail-yes (worth_in v w i) (omega arith) (omega (arith, far-le d far))

    -- .. and its key is by its distance and its place
    far-key : keys (worth_in v w) i ≡ (d + 1) * 512 + (511 - i)
    far-key = key-avail (worth_in v w i) i far-available ∙ ap (λ w. w * 512 + (511 - i)) (ap worth far)

pub held-only-under-four : HeldOnlyUnderFour
held-only-under-four v w i c unfree = go (state_in v w i) refl
  where
    -- a slot of the worth 0 is no candidate
    worthless : worth_in v w i ≡ 0 → ⊥
    worthless z =
        let h = held (worth_in v w) w.width i (λ e. omega arith) c.good in
        omega (arith, (avail-bounds (worth_in v w i) h.0).0)

    go : (s : SlotState) → state_in v w i ≡ s → Reused v w i
    go Free e = absurd (unfree e)
    go (Far d) e =
        let b = avail-bounds (worth_in v w i) (far-available v w i d e) in
        let h = held (worth_in v w) w.width i (λ q. omega (arith, b.1)) c.good in
        record { distance = d; far = e; few = omega (arith, h.1); ranks = h.1 }
    go Own e = absurd (worthless (ap worth e))
    go Earlier e = absurd (worthless (ap worth e))
    go OwnUnknown e = absurd (worthless (ap worth e))
    go Base e = absurd (worthless (ap worth e))
    go Unknown e = absurd (worthless (ap worth e))
    go HeldOff e = absurd (worthless (ap worth e))

-- a slot that is available and has no smaller key than an available candidate is one
better : (v : View) (w : Window) (i j d e : ℕ) → w.width ≤ 512 → Candidate v w i → j < w.width
    → state_in v w i ≡ Far d → state_in v w j ≡ Far e → (d + 1) * 512 + (511 - i) ≤ (e + 1) * 512 + (511 - j)
    → Candidate v w j
better v w i j d e fits c l p q m =
    let a = far-available v w i d p in
    let b = far-available v w j e q in
    let k : keys (worth_in v w) i ≤ keys (worth_in v w) j = omega (arith, far-key v w i d p, far-key v w j e q) in
    record { inside = l; good = greater-key (worth_in v w) w.width fits i j c.inside l a b k c.good }

pub farthest-first : FarthestFirst
farthest-first v w i j d e fits c l p q m = better v w i j d e fits c l p q (omega arith)

pub ties-to-the-earlier : TiesToTheEarlier
ties-to-the-earlier v w i j d fits c l p q = better v w i j d d fits c (omega (arith, c.inside)) p q (omega arith)

pub number-of-candidates : NumberOfCandidates
unfolding candidates_in candidates
number-of-candidates v w fits =
    count-those (candidate (worth_in v w) w.width) w.width ∙ count-candidates (worth_in v w) w.width fits
