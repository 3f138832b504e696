-- What a call answers and leaves, and the numbers given back.
-- Assumes nothing.
use Rattle.std.specs.Prelude.{ℕ, Bool, List, [], ◌∷◌, map, eqb, length, Result, Ok, Err}
use Rattle.laws.specs.Tests.{both}
use Rattle.limits.specs.Limits.{slot_times, records}
use Rattle.numbers.specs.declared.Refusal.{Refusal}
use Rattle.numbers.specs.Numbers.{number_of}
use Rattle.message.specs.State.{time_out_of, sub_row}
use Rattle.walks.specs.Out.{Out, out}
use Rattle.register.specs.declared.Reply.{Reply}
use Rattle.register.specs.declared.Answer.{Answer}
use Rattle.register.specs.declared.Answer.TheVariants.{Passed, Heard, Planned, Set, Chosen, Report, Begun, Sum}
use Rattle.register.specs.State.{State}

pub record Answered : Type 0 where
  pub answer : Result Answer Refusal
  pub state : State

abbrev pub answered : Answer → State → Answered
answered a s = record { answer = Ok a; state = s }

-- a refusal: its number only, and the state as it was
abbrev pub no : State → Refusal → Answered
no s r = record { answer = Err r; state = s }

-- as a call gives it back: the reply, the register and the book
abbrev pub out_of : Answered → Out Reply
out_of a = out (record { watch = a.state.watch; answer = a.answer }) a.state.reg a.state.book

-- ---- an answer in the paper's words

-- the number given, 0 where the call is done, and the values
pub record Said : Type 0 where
  pub number : ℕ
  pub values : List ℕ

abbrev pub did : List ℕ → Said
did values = record { number = 0; values = values }

-- a station that was heard: its source and its marks; an own slot: distance, slot number, candidates, marks replaced; a report: its time-out and the numbers of its
-- sub-message; the sum: the records' tallies together
abbrev pub values_of : Answer → List ℕ
values_of Passed = []
values_of (Heard m) = m.source ∷ m.marks ∷ []
values_of Planned = []
values_of Set = []
values_of (Chosen c) = c.distance ∷ c.slot ∷ c.candidates ∷ c.replaced ∷ []
values_of (Report m) = time_out_of m ∷ map (λ (f : ℕ × ℕ). f.1) (sub_row m)
values_of Begun = []
values_of (Sum n) = n ∷ []

-- a refusal: its number only
abbrev pub said : Result Answer Refusal → Said
said (Ok a) = did (values_of a)
said (Err r) = record { number = number_of r; values = [] }

abbrev pub given_number : Answered → ℕ
given_number a = (said a.answer).number

-- book and register have the lengths that they must have: 20 is given for any other
unfoldable pub sized : State → Bool
sized s = both (eqb (length s.book) slot_times) (eqb (length s.reg) records)
