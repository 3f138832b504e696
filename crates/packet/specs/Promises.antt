-- What is promised of packets, beyond what each call's contract says. Proved in proofs/RoundTrip.antt and proofs/Exactly.antt.
-- Assumes nothing.
use Rattle.std.specs.Prelude.{ℕ, ◌≤◌, ◌≡◌, Result, Ok, List, [], ◌∷◌, length}
use Rattle.laws.specs.Lists.{over, AllBytes}
use Rattle.laws.specs.Exactly.{Refuses}
use Rattle.limits.specs.Limits.{payload_bytes, most_packet}
use Rattle.numbers.specs.declared.Refusal.{Refusal}
use Rattle.numbers.specs.Numbers.{number_given}
use Rattle.bits.specs.Bits.{bytes_of}
use Rattle.packet.specs.Packet.{packet_of, write_tests, write_answer, Writes, body_of, frame_in, read_tests, read_answer, Reads}

-- what is written is read again: the packet of a payload that was not refused gives the payload back
abbrev pub ReadAfterWrite : Type 0
ReadAfterWrite =
    (p : List ℕ) (room n : ℕ) → AllBytes p → write_answer p room ≡ Ok n
    → (out : List ℕ) → payload_bytes ≤ length out → Reads (packet_of p) out (Ok (length p)) (over p out)

-- what is read is written again: accepted bits are the packet of the payload that they gave
abbrev pub WriteAfterRead : Type 0
WriteAfterRead =
    (xs : List ℕ) (room n : ℕ) → read_answer xs room ≡ Ok n
    → (out : List ℕ) → most_packet ≤ length out → Writes (bytes_of n (frame_in (body_of xs))) out (Ok (length xs)) (over xs out)

-- no second answer, and no second content, meets the contract
abbrev pub WriteOnce : Type 0
WriteOnce =
    (p out : List ℕ) (r r' : Result ℕ Refusal) (o o' : List ℕ) → Writes p out r o → Writes p out r' o' → (r ≡ r') × (o ≡ o')

abbrev pub ReadOnce : Type 0
ReadOnce =
    (xs out : List ℕ) (r r' : Result ℕ Refusal) (o o' : List ℕ) → Reads xs out r o → Reads xs out r' o' → (r ≡ r') × (o ≡ o')

-- ---- each number is given exactly when, and then the lent buffer is as it was

abbrev pub WriteExactly : Type 0
WriteExactly =
    (p out : List ℕ) (r : Result ℕ Refusal) (out' : List ℕ) → Writes p out r out'
    → Refuses (11 ∷ 12 ∷ []) number_given (write_tests p (length out)) (number_given r) (out' ≡ out)

abbrev pub ReadExactly : Type 0
ReadExactly =
    (xs out : List ℕ) (r : Result ℕ Refusal) (out' : List ℕ) → Reads xs out r out'
    → Refuses (11 ∷ 12 ∷ 10 ∷ 13 ∷ 14 ∷ 15 ∷ 16 ∷ []) number_given (read_tests xs (length out)) (number_given r) (out' ≡ out)
