-- Link packets, from opening to closing flag: what is written of a payload, what reading finds, and what is given back.
-- Assumes nothing.
use Rattle.std.specs.Prelude.{ℕ, ◌-◌, ◌/◌, ◌%◌, ◌≡◌, Bool, Result, Ok, Err, List, [], ◌∷◌, ◌++◌, leb, eqb, length, take, drop}
use Rattle.laws.specs.Tests.{both, between, ladder}
use Rattle.laws.specs.Lists.{over, same}
use Rattle.limits.specs.Limits.{payload_bytes, least_checked, most_checked, least_packet, most_packet}
use Rattle.numbers.specs.declared.Refusal.{Refusal}
use Rattle.numbers.specs.declared.Refusal.TheVariants.{NotBits, BadLength, NoRoom, NoFlag, BadStuffing, NotWhole, BadCheck}
use Rattle.bits.specs.Bits.{all_bits, high_first, sent_bits, bytes_of}
use Rattle.checking.specs.Check.{check_of}
use Rattle.stuffing.specs.Stuff.{flag, stuffed, legal, unstuffed}

-- ---- writing

-- payload and check as sent, not stuffed
unfoldable pub frame_of : List ℕ → List ℕ
frame_of p = sent_bits p ++ high_first 16 (check_of (sent_bits p))

unfoldable pub packet_of : List ℕ → List ℕ
packet_of p = flag ++ stuffed 4 (frame_of p) ++ flag

unfoldable pub write_tests : List ℕ → ℕ → List (Bool × Result ℕ Refusal)
write_tests p room =
    (between 1 payload_bytes (length p), Err BadLength)
    ∷ (leb most_packet room, Err NoRoom)
    ∷ []

unfoldable pub write_answer : List ℕ → ℕ → Result ℕ Refusal
unfolding write_tests
write_answer p room = ladder (write_tests p room) (Ok (length (packet_of p)))

unfoldable pub write_out : Result ℕ Refusal → List ℕ → List ℕ → List ℕ
write_out (Ok n) p out = over (packet_of p) out
write_out (Err r) p out = out

-- what `write` promises: one answer, and one content of the lent buffer
abbrev pub Writes : List ℕ → List ℕ → Result ℕ Refusal → List ℕ → Type 0
Writes payload out r out' = (r ≡ write_answer payload (length out)) × (out' ≡ write_out r payload out)

-- ---- reading

unfoldable pub flagged : List ℕ → Bool
flagged xs = both (same (take 8 xs) flag) (same (drop (length xs - 8) xs) flag)

-- what stands between the flags
unfoldable pub body_of : List ℕ → List ℕ
body_of xs = take (length xs - 8 - 8) (drop 8 xs)

-- the bits between the flags, unstuffed: payload and check
unfoldable pub frame_in : List ℕ → List ℕ
frame_in body = unstuffed 5 body

-- 3 to 23 whole bytes
unfoldable pub whole_bytes : List ℕ → Bool
whole_bytes f = both (eqb (length f % 8) 0) (between least_checked most_checked (length f))

-- the last 16 bits are the check of those before
unfoldable pub checked : List ℕ → Bool
checked f = same (drop (length f - 16) f) (high_first 16 (check_of (take (length f - 16) f)))

unfoldable pub frame_tests : List ℕ → List (Bool × Result ℕ Refusal)
frame_tests f =
    (whole_bytes f, Err NotWhole)
    ∷ (checked f, Err BadCheck)
    ∷ []

unfoldable pub body_tests : List ℕ → List (Bool × Result ℕ Refusal)
unfolding frame_tests
body_tests body = (legal 5 body, Err BadStuffing) ∷ frame_tests (frame_in body)

unfoldable pub read_tests : List ℕ → ℕ → List (Bool × Result ℕ Refusal)
unfolding body_tests
read_tests xs room =
    (between least_packet most_packet (length xs), Err BadLength)
    ∷ (leb payload_bytes room, Err NoRoom)
    ∷ (all_bits xs, Err NotBits)
    ∷ (flagged xs, Err NoFlag)
    ∷ body_tests (body_of xs)

-- how many bytes a frame has before its check
abbrev pub payload_length : List ℕ → ℕ
payload_length f = (length f - 16) / 8

unfoldable pub frame_answer : List ℕ → Result ℕ Refusal
unfolding frame_tests
frame_answer f = ladder (frame_tests f) (Ok (payload_length f))

unfoldable pub body_answer : List ℕ → Result ℕ Refusal
unfolding body_tests
body_answer body = ladder (body_tests body) (Ok (payload_length (frame_in body)))

unfoldable pub read_answer : List ℕ → ℕ → Result ℕ Refusal
unfolding read_tests
read_answer xs room = ladder (read_tests xs room) (Ok (payload_length (frame_in (body_of xs))))

-- f: the unstuffed bits. On success their bytes without the check
unfoldable pub read_out : Result ℕ Refusal → List ℕ → List ℕ → List ℕ
read_out (Ok n) f out = over (bytes_of n f) out
read_out (Err r) f out = out

-- what `read` promises
abbrev pub Reads : List ℕ → List ℕ → Result ℕ Refusal → List ℕ → Type 0
Reads bits out r out' = (r ≡ read_answer bits (length out)) × (out' ≡ read_out r (frame_in (body_of bits)) out)
