-- What is promised of the call that chooses, by the register and the book that it is made on. Proved in proofs/Chosen.antt, proofs/Draws.antt and
-- proofs/HoldingOff.antt.
-- Assumes nothing.
use Rattle.std.specs.Prelude.{ℕ, suc, ◌+◌, ◌-◌, ◌*◌, ◌/◌, ◌%◌, ◌≤◌, ◌<◌, min, ◌≡◌, Bool, true, false, ◌↔◌, [], ◌∷◌, eqb, length, get_or}
use Rattle.laws.specs.Tests.{both}
use Rattle.laws.specs.Ranges.{how_many}
use Rattle.limits.specs.Limits.{frame_slots, slot_times, records, hold_off}
use Rattle.ship.specs.Ship.{blank}
use Rattle.book.specs.Book.{place}
use Rattle.book.specs.Planning.{plan_fits}
use Rattle.candidates.specs.declared.Window.{Window}
use Rattle.candidates.specs.Slot.{SlotState, Free, Far, View, holder_at}
use Rattle.candidates.specs.Window.{free, available}
use Rattle.candidates.specs.Choice.{worth_in, candidates_in}
use Rattle.candidates.specs.Promises.{state_in, Candidate, Picks}
use Rattle.register.specs.State.{State}
use Rattle.register.specs.Answers.{Said, did, said, given_number, sized}
use Rattle.choosing.specs.declared.Wanted.{Wanted}
use Rattle.choosing.specs.Choosing.{ask_fits, window_of, any_own, view_of}
use Rattle.choosing.specs.Choose.{replaced_in, choose}

-- ---- words for the window meant

-- what is looked at, and the window itself
abbrev pub view_in : State → View
view_in s = view_of s.reg s.book s.watch

abbrev pub window_in : State → Wanted → Window
window_in s a = window_of s.watch a

-- what its slot i is
abbrev pub slot_is : State → Wanted → ℕ → SlotState
slot_is s a i = state_in (view_in s) (window_in s a) i

-- its slot i is a candidate
abbrev pub CandidateIn : State → Wanted → ℕ → Type 0
CandidateIn s a i = Candidate (view_in s) (window_in s a) i

-- how many candidates it has, how many free slots, how many that are available
abbrev pub candidates_of : State → Wanted → ℕ
candidates_of s a = length (candidates_in (view_in s) (window_in s a))

abbrev pub free_of : State → Wanted → ℕ
free_of s a = free (worth_in (view_in s) (window_in s a)) (window_in s a).width

abbrev pub available_of : State → Wanted → ℕ
available_of s a = available (worth_in (view_in s) (window_in s a)) (window_in s a).width

-- ---- words for the call

-- it comes to the draw: neither 20 nor 31 nor 30 nor 32 is given
pub record Draws (s : State) (a : Wanted) : Type 0 where
  pub sizes : sized s ≡ true
  pub planned : plan_fits s.watch.channel.plan.rate s.watch.channel.plan.start ≡ true
  pub asked : ask_fits s.watch.channel.plan a ≡ true
  pub unmarked : any_own s.book (window_in s a) ≡ false

-- the same is asked with the draw d
abbrev pub with_draw : Wanted → ℕ → Wanted
with_draw a d = record { k = a.k; timeout = a.timeout; draw = d }

-- the answer is the slot x ahead
abbrev pub is_slot : ℕ → Said → Bool
is_slot x t = both (eqb t.number 0) (eqb (get_or t.values 0 0) x)

-- the answer is the slot x ahead, with its slot number, out of n candidates, with m marks replaced
abbrev pub Chose : State → Wanted → ℕ → ℕ → ℕ → ℕ → Type 0
Chose s a x slot n m = said (choose s a).answer ≡ did (x ∷ slot ∷ n ∷ m ∷ [])

-- ---- what is chosen

-- no slot that can be chosen reaches beyond the book
abbrev pub NeverBeyond : Type 0
NeverBeyond = (s : State) (a : Wanted) → given_number (choose s a) ≡ 35 → ⊥

-- it was drawn from the candidates of the window meant; the slot number is its place's, and m of its times had a holder
pub record ChoseRightly (s : State) (a : Wanted) (x slot n m : ℕ) : Type 0 where
  pub draws : Draws s a
  pub picks : Picks (view_in s) (window_in s a) x n
  pub numbered : slot ≡ place s.watch.present x % frame_slots
  pub counted : m ≡ replaced_in s.book s.watch.present x (suc a.timeout)

abbrev pub ChosenIsCandidate : Type 0
ChosenIsCandidate = (s : State) (a : Wanted) (x slot n m : ℕ) → Chose s a x slot n m → ChoseRightly s a x slot n m

-- its marks lie in the book
abbrev pub MarksInTheBook : Type 0
MarksInTheBook = (s : State) (a : Wanted) (x slot n m : ℕ) → Chose s a x slot n m → x + frame_slots * a.timeout < slot_times

-- ---- the draw

-- of the 65,536 draws each candidate has floor(65536 / n) ..
abbrev pub EqualDraws : Type 0
EqualDraws =
    (s : State) (a : Wanted) (i : ℕ) → Draws s a → CandidateIn s a i
    → how_many (λ d. is_slot ((window_in s a).first + i) (said (choose s (with_draw a d)).answer)) 65536 ≡ 65536 / candidates_of s a

-- .. and the rest are sent back
abbrev pub RestSentBack : Type 0
RestSentBack =
    (s : State) (a : Wanted) → Draws s a → 0 < candidates_of s a
    → how_many (λ d. eqb (given_number (choose s (with_draw a d))) 34) 65536 ≡ 65536 - candidates_of s a * (65536 / candidates_of s a)

-- none exactly when it comes to the draw and no slot of the window meant is a candidate
abbrev pub NoneExactly : Type 0
NoneExactly =
    (s : State) (a : Wanted) → (given_number (choose s a) ≡ 33) ↔ (Draws s a × ((i : ℕ) → CandidateIn s a i → ⊥))

-- ---- the rule of four

abbrev pub FreeAreCandidates : Type 0
FreeAreCandidates =
    (s : State) (a : Wanted) (i : ℕ) → i < (window_in s a).width → slot_is s a i ≡ Free → CandidateIn s a i

-- a held slot is a candidate only where fewer than four are free
pub record Reused (s : State) (a : Wanted) (i : ℕ) : Type 0 where
  pub distance : ℕ
  pub far : slot_is s a i ≡ Far distance
  pub few : free_of s a < 4

abbrev pub HeldOnlyUnderFour : Type 0
HeldOnlyUnderFour = (s : State) (a : Wanted) (i : ℕ) → CandidateIn s a i → (slot_is s a i ≡ Free → ⊥) → Reused s a i

-- so a mark is replaced only there
abbrev pub ReuseUnderFour : Type 0
ReuseUnderFour = (s : State) (a : Wanted) (x slot n m : ℕ) → Chose s a x slot n m → 0 < m → free_of s a < 4

-- the farthest first: with an available candidate, each available slot that is farther, or as far and earlier, is a candidate
abbrev pub FarthestFirst : Type 0
FarthestFirst =
    (s : State) (a : Wanted) (i j d e : ℕ) → CandidateIn s a i → j < (window_in s a).width
    → slot_is s a i ≡ Far d → slot_is s a j ≡ Far e → d < e → CandidateIn s a j

abbrev pub TiesToTheEarlier : Type 0
TiesToTheEarlier =
    (s : State) (a : Wanted) (i j d : ℕ) → CandidateIn s a i → j < i
    → slot_is s a i ≡ Far d → slot_is s a j ≡ Far d → CandidateIn s a j

-- four candidates, or as many as are free or available; more only where more are free
abbrev pub NumberOfCandidates : Type 0
NumberOfCandidates = (s : State) (a : Wanted) → candidates_of s a ≡ free_of s a + min (4 - free_of s a) (available_of s a)

-- ---- hold-offs

-- the slot x ahead was chosen: a station is held off if a mark of its was replaced, and otherwise its hold-off stays
pub record HeldOff (s s' : State) (a : Wanted) (x k : ℕ) : Type 0 where
  pub replaced : (i : ℕ) → i ≤ a.timeout → holder_at s.book s.watch.present (x + frame_slots * i) ≡ k + 1
      → (get_or s'.reg k blank).hold ≡ hold_off
  pub other : ((i : ℕ) → i ≤ a.timeout → holder_at s.book s.watch.present (x + frame_slots * i) ≡ k + 1 → ⊥)
      → (get_or s'.reg k blank).hold ≡ (get_or s.reg k blank).hold

abbrev pub OnlyReplacedHeldOff : Type 0
OnlyReplacedHeldOff =
    (s : State) (a : Wanted) (x slot n m k : ℕ) → k < records → Chose s a x slot n m → HeldOff s (choose s a).state a x k
