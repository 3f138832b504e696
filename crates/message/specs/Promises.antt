-- What is promised of messages, beyond what each call's contract says. Proved in proofs/RoundTrip.antt and proofs/Exactly.antt.
-- Assumes nothing.
use Rattle.std.specs.Prelude.{ℕ, ◌≤◌, ◌≡◌, ⊤, Result, Ok, List, [], ◌∷◌, length}
use Rattle.laws.specs.Lists.{over, AllBytes}
use Rattle.laws.specs.Exactly.{Exactly, Refuses}
use Rattle.limits.specs.Limits.{message_bytes}
use Rattle.numbers.specs.declared.Refusal.{Refusal}
use Rattle.numbers.specs.Numbers.{number_given}
use Rattle.message.specs.Message.{read_tests, read_answer, write_tests, write_answer, bytes_of, Writes}
use Rattle.message.specs.declared.Message.{Message}

-- what is written is read again, every field: the bytes of a message that was not refused give the message back
abbrev pub ReadAfterWrite : Type 0
ReadAfterWrite = (m : Message) (room : ℕ) → write_answer m room ≡ Ok tt → read_answer (bytes_of m) ≡ Ok m

-- what is read is written again, every bit: accepted bytes are those of the message that they gave
abbrev pub WriteAfterRead : Type 0
WriteAfterRead =
    (l : List ℕ) (m : Message) → AllBytes l → read_answer l ≡ Ok m
    → (out : List ℕ) → message_bytes ≤ length out → Writes m out (Ok tt) (over l out)

-- no second answer, and no second content, meets the contract
abbrev pub ReadOnce : Type 0
ReadOnce = (l : List ℕ) (r r' : Result Message Refusal) → r ≡ read_answer l → r' ≡ read_answer l → r ≡ r'

abbrev pub WriteOnce : Type 0
WriteOnce =
    (m : Message) (out : List ℕ) (r r' : Result ⊤ Refusal) (o o' : List ℕ) → Writes m out r o → Writes m out r' o' → (r ≡ r') × (o ≡ o')

-- ---- each number is given exactly when, and then the lent buffer is as it was; reading writes to nothing that is lent

abbrev pub ReadExactly : Type 0
ReadExactly = (l : List ℕ) (r : Result Message Refusal) → r ≡ read_answer l → Exactly (17 ∷ 18 ∷ []) number_given (read_tests l) (number_given r)

abbrev pub WriteExactly : Type 0
WriteExactly =
    (m : Message) (out : List ℕ) (r : Result ⊤ Refusal) (out' : List ℕ) → Writes m out r out'
    → Refuses (12 ∷ 18 ∷ 19 ∷ []) number_given (write_tests m (length out)) (number_given r) (out' ≡ out)
