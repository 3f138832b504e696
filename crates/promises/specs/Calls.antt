-- Any row of calls from new, each given what the last one left, refused ones included.
-- Assumes nothing.
use Rattle.std.specs.Prelude.{ℕ, List, [], ◌∷◌}
use Rattle.limits.specs.Limits.{slot_times, records}
use Rattle.register.specs.State.{State, new_state}
use Rattle.register.specs.Answers.{Answered}
use Rattle.calls.specs.declared.What.{What}
use Rattle.calls.specs.Calls.{called}

-- so many slots pass, and then this is asked; the bytes are those that are heard
pub record Call : Type 0 where
  pub passes : ℕ
  pub bytes : List ℕ
  pub what : What

-- what the call answers and leaves
abbrev pub answer_to : State → Call → Answered
answer_to s c = called s c.passes c.bytes c.what

unfoldable pub after_call : State → Call → State
after_call s c = (answer_to s c).state

-- the calls that were made, the last one first
unfoldable pub after_all : List Call → State
after_all [] = new_state slot_times records
after_all (c ∷ cs) = after_call (after_all cs) c
