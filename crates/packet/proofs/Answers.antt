-- Which answer the tests on the way lead to.
-- Assumes nothing.
use mathlib.Core.Path.{◌≡◌}
use mathlib.Core.Bool.{Bool, true, false}
use mathlib.Core.List.{List}
use Prim.Native.Nat.{ℕ, ◌-◌, ◌%◌, ◌≤◌, ◌<◌}
use borrow.Author.Tests.{le-leb, lt-leb, eq-eqb, ne_eqb}
use lib.ListN.{length, take, drop}
use Rattle.std.specs.Prelude.{Ok, Err}
use Rattle.laws.specs.Tests.{between}
use Rattle.laws.specs.Lists.{same}
use Rattle.laws.proofs.Tests.{between-yes, both-no}
use Rattle.limits.specs.Limits.{payload_bytes, least_checked, most_checked, least_packet, most_packet}
use Rattle.numbers.specs.declared.Refusal.TheVariants.{NotBits, BadLength, NoRoom, NoFlag, BadStuffing, NotWhole, BadCheck}
use Rattle.bits.specs.Bits.{all_bits}
use Rattle.stuffing.specs.Stuff.{flag, legal}
use Rattle.packet.proofs.Within.{within}
use Rattle.packet.specs.Packet.{packet_of, write_answer, body_of, flagged, frame_in, whole_bytes, checked, frame_answer, body_answer, read_answer, payload_length}

-- ---- writing

pub write-length : (p : List ℕ) (m : ℕ) → between 1 payload_bytes (length p) ≡ false → Err BadLength ≡ write_answer p m
unfolding write_answer
write-length p m h = simp h

pub write-room : (p : List ℕ) (m : ℕ) → between 1 payload_bytes (length p) ≡ true → m < most_packet → Err NoRoom ≡ write_answer p m
unfolding write_answer
write-room p m h r = simp (h, lt-leb most_packet m r)

pub write-good : (p : List ℕ) (m : ℕ) → between 1 payload_bytes (length p) ≡ true → most_packet ≤ m → Ok (length (packet_of p)) ≡ write_answer p m
unfolding write_answer
write-good p m h r = simp (h, le-leb most_packet m r)

-- ---- unstuffed bits

pub count-odd : (f : List ℕ) → (length f % 8 ≡ 0 → ⊥) → whole_bytes f ≡ false
unfolding whole_bytes
count-odd f h = simp (ne_eqb (length f % 8) 0 h)

pub count-out : (f : List ℕ) → between least_checked most_checked (length f) ≡ false → whole_bytes f ≡ false
unfolding whole_bytes
count-out f h = simp (h, both-no)

pub whole : (f : List ℕ) → length f % 8 ≡ 0 → least_checked ≤ length f → length f ≤ most_checked → whole_bytes f ≡ true
unfolding whole_bytes
whole f e h k = simp (eq-eqb (length f % 8) 0 e, between-yes least_checked most_checked (length f) h k)

pub count-bad : (f : List ℕ) → whole_bytes f ≡ false → Err NotWhole ≡ frame_answer f
unfolding frame_answer
count-bad f w = simp w

pub check-bad : (f : List ℕ) → whole_bytes f ≡ true → checked f ≡ false → Err BadCheck ≡ frame_answer f
unfolding frame_answer
check-bad f w c = simp (w, c)

pub check-good : (f : List ℕ) → whole_bytes f ≡ true → checked f ≡ true → Ok (payload_length f) ≡ frame_answer f
unfolding frame_answer
check-good f w c = simp (w, c)

-- ---- between the flags

pub stuffing-bad : (body : List ℕ) → legal 5 body ≡ false → Err BadStuffing ≡ body_answer body
unfolding body_answer
stuffing-bad body e = simp e

pub stuffing-good : (body : List ℕ) → legal 5 body ≡ true → frame_answer (frame_in body) ≡ body_answer body
unfolding body_answer frame_answer
stuffing-good body e = simp e

-- ---- reading

pub read-length : (xs : List ℕ) (m : ℕ) → between least_packet most_packet (length xs) ≡ false → Err BadLength ≡ read_answer xs m
unfolding read_answer
read-length xs m h = simp h

module _ (xs : List ℕ) (m : ℕ) (long : between least_packet most_packet (length xs) ≡ true) where
  pub read-room : m < payload_bytes → Err NoRoom ≡ read_answer xs m
  unfolding read_answer
  read-room r = simp (long, lt-leb payload_bytes m r)

  module _ (room : payload_bytes ≤ m) where
    pub read-bits : all_bits xs ≡ false → Err NotBits ≡ read_answer xs m
    unfolding read_answer
    read-bits e = simp (long, le-leb payload_bytes m room, e)

    module _ (bits : all_bits xs ≡ true) where
      pub read-flag : flagged xs ≡ false → Err NoFlag ≡ read_answer xs m
      unfolding read_answer
      read-flag e = simp (long, le-leb payload_bytes m room, bits, e)

      pub read-body : flagged xs ≡ true → body_answer (body_of xs) ≡ read_answer xs m
      unfolding read_answer body_answer
      read-body e = simp (long, le-leb payload_bytes m room, bits, e)

pub flagged-no : (xs : List ℕ) → same (take 8 xs) flag ≡ false → flagged xs ≡ false
unfolding flagged
flagged-no xs e = simp e

pub flagged-is : (xs : List ℕ) {b : Bool} → same (take 8 xs) flag ≡ true → same (drop (length xs - 8) xs) flag ≡ b → flagged xs ≡ b
unfolding flagged
flagged-is xs {b} e f = simp (e, f)

pub ruleset writing_steps = (within, write-length, write-room, write-good)

pub ruleset reading_steps = (within, read-length, read-room, read-bits)
