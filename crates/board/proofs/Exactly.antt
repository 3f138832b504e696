-- Each number of the C face is given exactly when, and then everything lent is as it was.
-- Assumes nothing.
use mathlib.Core.Path.{◌≡◌, refl, ◌∙◌}
use mathlib.Core.List.{List, [], ◌∷◌}
use Prim.Native.Nat.{ℕ, ◌<◌}
use native.Mathlib.Omega.{arith}
use lib.IntN.{ℤ}
use lib.ListN.{length}
use Rattle.std.specs.Prelude.{Result, Ok, Err}
use Rattle.laws.specs.Exactly.{Exactly}
use Rattle.laws.proofs.Ladder.{by_tests, owes}
use Rattle.numbers.specs.declared.Refusal.{Refusal}
use Rattle.numbers.specs.Numbers.{number_given}
use Rattle.packet.specs.Packet as packet
use Rattle.packet.proofs.Exactly as packets
use Rattle.message.specs.Message as message
use Rattle.message.specs.declared.Message.{Message}
use Rattle.message.proofs.Exactly as messages
use Rattle.listing.specs.Listing.{message_in}
use Rattle.board.specs.Face.{count_given}
use Rattle.board.specs.Messages.{list_tests, list_answer, list_out, list_count, said_tests, said_answer}
use Rattle.board.specs.Promises.{PacketWriteExactly, PacketReadExactly, MessageReadExactly, MessageWriteExactly}

-- ---- a refusal leaves the count, and the list

count-keeps : (a : Result ℕ Refusal) (count : ℕ) → 0 < number_given a → count_given a count ≡ count
count-keeps (Ok n) count h = absurd (omega (arith, h))
count-keeps (Err r) count h = refl

list-keeps : (a : Result Message Refusal) (fields : List ℤ) (count : ℕ) → 0 < number_given a → (list_out a fields ≡ fields) × (list_count a count ≡ count)
list-keeps (Ok m) fields count h = absurd (omega (arith, h))
list-keeps (Err r) fields count h = (refl, refl)

-- ---- packets

pub packet-write-exactly : PacketWriteExactly
packet-write-exactly payload bits count r bits' count' (e, o, c) =
    let a = packet.write_answer payload (length bits) in
    owes _ _ _ a r (packets.written-exactly payload (length bits)) e
    (λ h. (o ∙ packets.not_written a payload bits (omega (arith, e, h)), c ∙ count-keeps a count (omega (arith, e, h))))

pub packet-read-exactly : PacketReadExactly
packet-read-exactly bits payload count r payload' count' (e, o, c) =
    let a = packet.read_answer bits (length payload) in
    owes _ _ _ a r (packets.received-exactly bits (length payload)) e
    (λ h. (o ∙ packets.not-received a _ payload (omega (arith, e, h)), c ∙ count-keeps a count (omega (arith, e, h))))

-- ---- messages

listed-exactly : (l : List ℕ) (room : ℕ) → Exactly (12 ∷ 17 ∷ 18 ∷ []) number_given (list_tests l room) (number_given (list_answer l room))
unfolding list_answer message.read_tests
listed-exactly l room = by_tests (12 ∷ 17 ∷ 18 ∷ []) number_given (list_tests l room) (Ok (message.message_of l)) refl tt refl

pub message-read-exactly : MessageReadExactly
message-read-exactly l fields count r fields' count' (e, o, c) =
    let a = list_answer l (length fields) in
    owes _ _ _ a r (listed-exactly l (length fields)) e
    (λ h. let k = list-keeps a fields count (omega (arith, e, h)) in (o ∙ k.0, c ∙ k.1))

said-exactly : (fields : List ℤ) (room : ℕ) → Exactly (12 ∷ 17 ∷ 18 ∷ 19 ∷ []) number_given (said_tests fields room) (number_given (said_answer fields room))
unfolding said_answer
said-exactly fields room = by_tests (12 ∷ 17 ∷ 18 ∷ 19 ∷ []) number_given (said_tests fields room) (Ok tt) refl tt refl

pub message-write-exactly : MessageWriteExactly
message-write-exactly fields out r out' (e, o) =
    let a = said_answer fields (length out) in
    owes _ _ _ a r (said-exactly fields (length out)) e (λ h. o ∙ messages.not_written a (message_in fields) out (omega (arith, e, h)))
