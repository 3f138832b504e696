-- What is promised of each call of the C face, beyond what its contract says. Proved in proofs/Exactly.antt and proofs/Once.antt.
-- Assumes nothing.
use Rattle.std.specs.Prelude.{ℕ, ◌≡◌, List, [], ◌∷◌, ℤ, length}
use Rattle.laws.specs.Exactly.{Refuses}
use Rattle.numbers.specs.Numbers.{number_given}
use Rattle.packet.specs.Packet as packet
use Rattle.board.specs.Face.{WritesC, ReadsC}
use Rattle.board.specs.Messages.{list_tests, said_tests, ReadsMessageC, WritesMessageC}

-- ---- the number r is given exactly when, and then everything lent is as it was

abbrev pub PacketWriteExactly : Type 0
PacketWriteExactly =
    (payload bits : List ℕ) (count r : ℕ) (bits' : List ℕ) (count' : ℕ) → WritesC payload bits count r bits' count'
    → Refuses (11 ∷ 12 ∷ []) number_given (packet.write_tests payload (length bits)) r ((bits' ≡ bits) × (count' ≡ count))

abbrev pub PacketReadExactly : Type 0
PacketReadExactly =
    (bits payload : List ℕ) (count r : ℕ) (payload' : List ℕ) (count' : ℕ) → ReadsC bits payload count r payload' count'
    → Refuses (11 ∷ 12 ∷ 10 ∷ 13 ∷ 14 ∷ 15 ∷ 16 ∷ []) number_given (packet.read_tests bits (length payload)) r
    ((payload' ≡ payload) × (count' ≡ count))

abbrev pub MessageReadExactly : Type 0
MessageReadExactly =
    (l : List ℕ) (fields : List ℤ) (count r : ℕ) (fields' : List ℤ) (count' : ℕ) → ReadsMessageC l fields count r fields' count'
    → Refuses (12 ∷ 17 ∷ 18 ∷ []) number_given (list_tests l (length fields)) r ((fields' ≡ fields) × (count' ≡ count))

abbrev pub MessageWriteExactly : Type 0
MessageWriteExactly =
    (fields : List ℤ) (out : List ℕ) (r : ℕ) (out' : List ℕ) → WritesMessageC fields out r out'
    → Refuses (12 ∷ 17 ∷ 18 ∷ 19 ∷ []) number_given (said_tests fields (length out)) r (out' ≡ out)

-- ---- one answer: two numbers and contents of everything lent that meet the contract at the same input are equal

-- the number, the bits and the count
abbrev pub PacketWriteOnce : Type 0
PacketWriteOnce =
    (payload bits : List ℕ) (count r r' : ℕ) (o o' : List ℕ) (n n' : ℕ)
    → WritesC payload bits count r o n → WritesC payload bits count r' o' n' → (r ≡ r') × (o ≡ o') × (n ≡ n')

-- the number, the payload and the count
abbrev pub PacketReadOnce : Type 0
PacketReadOnce =
    (bits payload : List ℕ) (count r r' : ℕ) (o o' : List ℕ) (n n' : ℕ)
    → ReadsC bits payload count r o n → ReadsC bits payload count r' o' n' → (r ≡ r') × (o ≡ o') × (n ≡ n')

-- the number, the fields and the count
abbrev pub MessageReadOnce : Type 0
MessageReadOnce =
    (l : List ℕ) (fields : List ℤ) (count r r' : ℕ) (o o' : List ℤ) (n n' : ℕ)
    → ReadsMessageC l fields count r o n → ReadsMessageC l fields count r' o' n' → (r ≡ r') × (o ≡ o') × (n ≡ n')

-- the number and the bytes
abbrev pub MessageWriteOnce : Type 0
MessageWriteOnce =
    (fields : List ℤ) (out : List ℕ) (r r' : ℕ) (o o' : List ℕ)
    → WritesMessageC fields out r o → WritesMessageC fields out r' o' → (r ≡ r') × (o ≡ o')
