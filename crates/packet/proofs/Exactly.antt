-- "Given exactly when", for each number of writing and reading, and what an accepted packet has passed.
-- Assumes nothing.
use mathlib.Core.Path.{◌≡◌, refl, ap, ◌∙◌}
use mathlib.Core.Bool.{true}
use mathlib.Core.List.{List, [], ◌∷◌}
use Prim.Native.Nat.{ℕ, ◌≤◌, ◌<◌}
use native.Mathlib.Omega.{arith}
use borrow.Author.Tests.{leb-true}
use lib.Dec.{leb}
use lib.ListN.{length}
use Rattle.std.specs.Prelude.{Result, Ok, Err}
use Rattle.laws.specs.Tests.{between}
use Rattle.laws.proofs.Tests.{between_is}
use Rattle.laws.specs.Exactly.{Exactly}
use Rattle.laws.proofs.Ladder.{by_tests, owes}
use Rattle.limits.specs.Limits.{payload_bytes, least_packet, most_packet}
use Rattle.numbers.specs.declared.Refusal.{Refusal}
use Rattle.numbers.specs.Numbers.{number_given}
use Rattle.bits.specs.Bits.{all_bits}
use Rattle.stuffing.specs.Stuff.{legal}
use Rattle.packet.specs.Packet.{packet_of, write_tests, write_answer, write_out, flagged, body_of, frame_in, whole_bytes, checked, frame_tests, body_tests, read_tests, read_answer, read_out, payload_length}
use Rattle.packet.specs.Promises.{WriteExactly, ReadExactly}

-- ---- writing

pub written-exactly : (p : List ℕ) (room : ℕ) → Exactly (11 ∷ 12 ∷ []) number_given (write_tests p room) (number_given (write_answer p room))
unfolding write_tests write_answer
written-exactly p room = by_tests (11 ∷ 12 ∷ []) number_given (write_tests p room) (Ok (length (packet_of p))) refl tt refl

pub not_written : (r : Result ℕ Refusal) (p out : List ℕ) → 0 < number_given r → write_out r p out ≡ out
unfolding write_out
not_written (Ok n) p out h = absurd (omega (arith, h))
not_written (Err r) p out h = refl

pub write-exactly : WriteExactly
write-exactly p out r out' (e, o) =
    owes _ _ _ (write_answer p (length out)) (number_given r) (written-exactly p (length out)) (ap number_given e) (λ h. o ∙ not_written r p out h)

-- ---- reading

pub received-exactly :
    (xs : List ℕ) (room : ℕ)
    → Exactly (11 ∷ 12 ∷ 10 ∷ 13 ∷ 14 ∷ 15 ∷ 16 ∷ []) number_given (read_tests xs room) (number_given (read_answer xs room))
unfolding frame_tests body_tests read_tests read_answer
received-exactly xs room =
    by_tests (11 ∷ 12 ∷ 10 ∷ 13 ∷ 14 ∷ 15 ∷ 16 ∷ []) number_given (read_tests xs room) (Ok (payload_length (frame_in (body_of xs)))) refl tt refl

pub not-received : (r : Result ℕ Refusal) (f out : List ℕ) → 0 < number_given r → read_out r f out ≡ out
unfolding read_out
not-received (Ok n) f out h = absurd (omega (arith, h))
not-received (Err r) f out h = refl

pub read-exactly : ReadExactly
read-exactly xs out r out' (e, o) =
    owes _ _ _ (read_answer xs (length out)) (number_given r) (received-exactly xs (length out)) (ap number_given e)
    (λ h. o ∙ not-received r (frame_in (body_of xs)) out h)

-- what bits have passed that were read
pub record Passed (xs : List ℕ) (room : ℕ) : Type 0 where
  pub long : between least_packet most_packet (length xs) ≡ true
  pub lent : leb payload_bytes room ≡ true
  pub bits : all_bits xs ≡ true
  pub flags : flagged xs ≡ true
  pub stuffing : legal 5 (body_of xs) ≡ true
  pub whole : whole_bytes (frame_in (body_of xs)) ≡ true
  pub check : checked (frame_in (body_of xs)) ≡ true

pub passed : (xs : List ℕ) (room n : ℕ) → read_answer xs room ≡ Ok n → Passed xs room
unfolding frame_tests body_tests read_tests
passed xs room n e =
    let t = (received-exactly xs room).none.0 (ap number_given e) in
    let body = t.1.1.1.1 in
    record { long = t.0; lent = t.1.0; bits = t.1.1.0; flags = t.1.1.1.0; stuffing = body.0; whole = body.1.0; check = body.1.1 }

-- what a payload has passed that was written
pub record Sendable (p : List ℕ) (room : ℕ) : Type 0 where
  pub some : 1 ≤ length p
  pub few : length p ≤ payload_bytes
  pub lent : most_packet ≤ room

pub sendable : (p : List ℕ) (room n : ℕ) → write_answer p room ≡ Ok n → Sendable p room
unfolding write_tests
sendable p room n e =
    let t = (written-exactly p room).none.0 (ap number_given e) in
    let l = between_is 1 payload_bytes (length p) t.0 in
    record { some = l.0; few = l.1; lent = leb-true most_packet room t.1 }
