-- What the C face promises: the number, what is lent, and the count.
-- Assumes nothing.
use Rattle.std.specs.Prelude.{ℕ, ◌≡◌, Result, Ok, Err, List, length}
use Rattle.numbers.specs.declared.Refusal.{Refusal}
use Rattle.numbers.specs.Numbers.{number_given}
use Rattle.packet.specs.Packet.{write_answer, write_out, body_of, frame_in, read_answer, read_out}

-- a count is so many bits or bytes, or what it was where the call is refused
abbrev pub count_given : Result ℕ Refusal → ℕ → ℕ
count_given (Ok n) count = n
count_given (Err r) count = count

abbrev pub WritesC : List ℕ → List ℕ → ℕ → ℕ → List ℕ → ℕ → Type 0
WritesC payload bits count r bits' count' =
    (r ≡ number_given (write_answer payload (length bits)))
    × (bits' ≡ write_out (write_answer payload (length bits)) payload bits)
    × (count' ≡ count_given (write_answer payload (length bits)) count)

abbrev pub ReadsC : List ℕ → List ℕ → ℕ → ℕ → List ℕ → ℕ → Type 0
ReadsC bits payload count r payload' count' =
    (r ≡ number_given (read_answer bits (length payload)))
    × (payload' ≡ read_out (read_answer bits (length payload)) (frame_in (body_of bits)) payload)
    × (count' ≡ count_given (read_answer bits (length payload)) count)
