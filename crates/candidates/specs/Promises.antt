-- What is promised of the choice, beyond what each function's contract says. Proved in proofs/Promised.antt.
-- Assumes nothing.
use Rattle.std.specs.Prelude.{ℕ, ◌+◌, ◌-◌, ◌*◌, ◌/◌, ◌≤◌, ◌<◌, min, ◌≡◌, true, ◌↔◌, length, Ok, Err}
use Rattle.laws.specs.Ranges.{how_many}
use Rattle.numbers.specs.declared.Refusal.TheVariants.{NoCandidate}
use Rattle.candidates.specs.declared.Window.{Window}
use Rattle.candidates.specs.Slot.{SlotState, Free, Far, View, state_of}
use Rattle.candidates.specs.Window.{free, available, rank, candidate, at, is_back, is_at}
use Rattle.candidates.specs.Choice.{worth_in, candidates_in, choice}

-- ---- words for the slots of a window

-- what the slot i of the window is
abbrev pub state_in : View → Window → ℕ → SlotState
state_in v w i = state_of v w.present (w.first + i) w.timeout

-- the slot i of the window is a candidate
pub record Candidate (v : View) (w : Window) (i : ℕ) : Type 0 where
  pub inside : i < w.width
  pub good : candidate (worth_in v w) w.width i ≡ true

-- a choice came to the slot x ahead, out of n candidates
pub record Picks (v : View) (w : Window) (x n : ℕ) : Type 0 where
  pub slot : ℕ
  pub there : x ≡ w.first + slot
  pub candidate : Candidate v w slot
  pub number : n ≡ length (candidates_in v w)

-- ---- demand 2: picked from the candidates, each by equally many draws

abbrev pub PickIsCandidate : Type 0
PickIsCandidate = (v : View) (w : Window) (d x n : ℕ) → choice v w d ≡ Ok (at x n) → Picks v w x n

-- of the 65,536 draws each candidate has floor(65536 / n) ..
abbrev pub EqualDraws : Type 0
EqualDraws =
    (v : View) (w : Window) (i : ℕ) → Candidate v w i
    → how_many (λ d. is_at (w.first + i) (choice v w d)) 65536 ≡ 65536 / length (candidates_in v w)

-- .. and the rest are sent back
abbrev pub RestSentBack : Type 0
RestSentBack =
    (v : View) (w : Window) → 0 < length (candidates_in v w)
    → how_many (λ d. is_back (choice v w d)) 65536
    ≡ 65536 - length (candidates_in v w) * (65536 / length (candidates_in v w))

-- none exactly when no slot of the window is a candidate, whatever the draw
abbrev pub NoneExactly : Type 0
NoneExactly =
    (v : View) (w : Window) (d : ℕ)
    → (choice v w d ≡ Err NoCandidate) ↔ ((i : ℕ) → Candidate v w i → ⊥)

-- ---- the rule of four

abbrev pub FreeAreCandidates : Type 0
FreeAreCandidates =
    (v : View) (w : Window) (i : ℕ) → i < w.width → state_in v w i ≡ Free → Candidate v w i

-- a held slot is a candidate only where fewer than four are free
pub record Reused (v : View) (w : Window) (i : ℕ) : Type 0 where
  pub distance : ℕ
  pub far : state_in v w i ≡ Far distance
  pub few : free (worth_in v w) w.width < 4
  pub ranks : rank (worth_in v w) w.width i < 4 - free (worth_in v w) w.width

abbrev pub HeldOnlyUnderFour : Type 0
HeldOnlyUnderFour =
    (v : View) (w : Window) (i : ℕ) → Candidate v w i → (state_in v w i ≡ Free → ⊥) → Reused v w i

-- and then the farthest: with an available candidate, each available slot that is farther, or as far and earlier, is a candidate
abbrev pub FarthestFirst : Type 0
FarthestFirst =
    (v : View) (w : Window) (i j d e : ℕ) → w.width ≤ 512 → Candidate v w i → j < w.width
    → state_in v w i ≡ Far d → state_in v w j ≡ Far e → d < e → Candidate v w j

abbrev pub TiesToTheEarlier : Type 0
TiesToTheEarlier =
    (v : View) (w : Window) (i j d : ℕ) → w.width ≤ 512 → Candidate v w i → j < i
    → state_in v w i ≡ Far d → state_in v w j ≡ Far d → Candidate v w j

-- four candidates, or as many as are free or available; more only where more are free
abbrev pub NumberOfCandidates : Type 0
NumberOfCandidates =
    (v : View) (w : Window) → w.width ≤ 512
    → length (candidates_in v w)
    ≡ free (worth_in v w) w.width + min (4 - free (worth_in v w) w.width) (available (worth_in v w) w.width)
