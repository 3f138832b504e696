-- Choosing an own slot, in the words of document 01.
-- Assumes nothing.
use Rattle.std.specs.Prelude.{ℕ, suc, ◌+◌, ◌*◌, ◌%◌, Bool, not, List, [], ◌∷◌, ltb}
use Rattle.std.specs.declared.result.Result.{Result}
use Rattle.laws.specs.Tests.{ladder}
use Rattle.laws.specs.Loops.{upto}
use Rattle.laws.specs.Ranges.{how_many}
use Rattle.limits.specs.Limits.{frame_slots, slot_times}
use Rattle.numbers.specs.declared.Refusal.{Refusal}
use Rattle.numbers.specs.declared.Refusal.TheVariants.{OtherLength, OutOfRange, NoPlan, WindowTaken, NoCandidate, DrawBack, BeyondBook}
use Rattle.book.specs.Book.{place}
use Rattle.book.specs.Planning.{plan_fits}
use Rattle.candidates.specs.declared.Picked.{Picked}
use Rattle.candidates.specs.Slot.{is_none, holder_at}
use Rattle.candidates.specs.Window.{is_no, is_back, distance_in, number_in}
use Rattle.candidates.specs.Choice.{choice}
use Rattle.register.specs.declared.Answer.TheVariants.{Chosen}
use Rattle.register.specs.State.{State, owned}
use Rattle.register.specs.Answers.{Answered, answered, no, sized}
use Rattle.choosing.specs.declared.Wanted.{Wanted}
use Rattle.choosing.specs.Choosing.{ask_fits, window_of, any_own, view_of}

-- the slot that the draw picks in the window meant
abbrev pub drawn_in : State → Wanted → Result Picked Refusal
drawn_in s a = choice (view_of s.reg s.book s.watch) (window_of s.watch a) a.draw

-- the slot x ahead is marked own at 0, 1, .. m frames after; each station whose mark is replaced is held off
unfoldable pub chosen : State → ℕ → ℕ → State
chosen s x m = upto (λ t i. owned t (place s.watch.present (x + frame_slots * i))) s (suc m)

-- how many of n times, a frame apart, the first d ahead, have a holder
unfoldable pub replaced_in : List ℕ → ℕ → ℕ → ℕ → ℕ
replaced_in slots present d n = how_many (λ i. not (is_none (holder_at slots present (d + frame_slots * i)))) n

-- what is asked of the book and the register
abbrev pub draw_tests : State → Wanted → List (Bool × Answered)
draw_tests s a =
    (not (any_own s.book (window_of s.watch a)), no s WindowTaken)
    ∷ (not (is_no (drawn_in s a)), no s NoCandidate)
    ∷ (not (is_back (drawn_in s a)), no s DrawBack)
    ∷ (ltb (distance_in (drawn_in s a) + frame_slots * a.timeout) slot_times, no s BeyondBook)
    ∷ []

unfoldable pub choose_tests : State → Wanted → List (Bool × Answered)
choose_tests s a =
    let p = s.watch.channel.plan in
    (sized s, no s OtherLength)
    ∷ (plan_fits p.rate p.start, no s NoPlan)
    ∷ (ask_fits p a, no s OutOfRange)
    ∷ draw_tests s a

-- what is answered where all tests hold: distance, slot number, candidates, and marks replaced
abbrev pub chooses : State → Wanted → Answered
chooses s a =
    let x = distance_in (drawn_in s a) in
    answered (Chosen (record {
      distance = x;
      slot = place s.watch.present x % frame_slots;
      candidates = number_in (drawn_in s a);
      replaced = replaced_in s.book s.watch.present x (suc a.timeout);
    })) (chosen s x a.timeout)

unfoldable pub choose : State → Wanted → Answered
unfolding choose_tests
choose s a = ladder (choose_tests s a) (chooses s a)
