-- Reading what was written gives the payload back, and what reading accepts is what writing makes of its payload.
-- Assumes nothing.
use mathlib.Core.Path.{◌≡◌, refl, sym, ap, ap₂, ◌∙◌}
use mathlib.Core.Bool.{true}
use mathlib.Core.List.{List, [], ◌∷◌, ◌++◌, append_assoc, append-nil}
use Prim.Native.Nat.{ℕ, zero, suc, ◌+◌, ◌-◌, ◌*◌, ◌%◌, ◌≤◌}
use native.Mathlib.Omega.{arith}
use lib.Dec.{eqb}
use borrow.Author.Tests.{leb-true, eqb-true}
use lib.ListN.{length, take, drop, length-append, take-append-drop}
use lib.Seq.{take_at, drop_at, drop-drop}
use Rattle.std.specs.Prelude.{Ok}
use Rattle.laws.specs.Tests.{both, between}
use Rattle.laws.specs.Lists.{over, same, AllBytes}
use Rattle.laws.proofs.Tests.{both_left, both_right, between-yes, between_is}
use Rattle.laws.proofs.Lists.{same→eq, same_refl}
use Rattle.laws.proofs.Unique.{unique}
use Rattle.limits.specs.Limits.{payload_bytes, least_checked, most_checked, least_packet, most_packet}
use Rattle.bits.specs.Bits.{all_bits, high_first, sent_bits, bytes_of}
use Rattle.bits.proofs.Bits.{all_bits-more, all_bits-append, all_bits-take, all_bits-drop, bit-head, bit-tail, high_bits}
use Rattle.bits.proofs.Bytes.{sent-bits, length-sent, length-bytes_of, bytes_back, sent_back}
use Rattle.checking.specs.Check.{check_of}
use Rattle.stuffing.specs.Stuff.{flag, stuffed, legal, unstuffed}
use Rattle.packet.specs.Packet.{frame_of, packet_of, write_answer, write_out, body_of, flagged, frame_in, whole_bytes, checked, payload_length, frame_answer, body_answer, read_answer, read_out}
use Rattle.packet.specs.Promises.{ReadAfterWrite, WriteAfterRead, WriteOnce, ReadOnce}
use Rattle.stuffing.proofs.Stuffing.{stuffed-least, legal-stuffed, unstuffed-stuffed, stuffed-unstuffed, unstuffed-bits}
use Rattle.packet.proofs.Building.{length-flag, length-frame, length-packet, packet-short}
use Rattle.packet.proofs.Answers.{write-good, whole, check-good, stuffing-good, read-body}
use Rattle.packet.proofs.Exactly.{passed, sendable}

-- ---- bits of what is written

stuffed-bits : (k : ℕ) (bs : List ℕ) → all_bits bs ≡ true → all_bits (stuffed k bs) ≡ true
unfolding stuffed
stuffed-bits k [] e = e
stuffed-bits k (zero ∷ bs) e = all_bits-more 0 _ (omega arith) ∙ stuffed-bits 4 bs (bit-tail 0 bs e)
stuffed-bits zero (suc b ∷ bs) e = all_bits-more (suc b) _ (bit-head (suc b) bs e) ∙ all_bits-more 0 _ (omega arith) ∙ stuffed-bits 4 bs (bit-tail (suc b) bs e)
stuffed-bits (suc k) (suc b ∷ bs) e = all_bits-more (suc b) _ (bit-head (suc b) bs e) ∙ stuffed-bits k bs (bit-tail (suc b) bs e)

flag-bits-all : all_bits flag ≡ true
unfolding flag all_bits
flag-bits-all = refl

packet-bits : (p : List ℕ) → all_bits (packet_of p) ≡ true
unfolding packet_of frame_of
packet-bits p =
    all_bits-append (flag ++ stuffed 4 (frame_of p)) flag
    (all_bits-append flag (stuffed 4 (frame_of p)) flag-bits-all
    (stuffed-bits 4 (frame_of p) (all_bits-append (sent_bits p) (high_first 16 (check_of (sent_bits p))) (sent-bits p) (high_bits 16 _))))
    flag-bits-all

-- ---- parts of what is written

module _ (p : List ℕ) where
  body_is : body_of (packet_of p) ≡ stuffed 4 (frame_of p)
  unfolding body_of packet_of
  body_is =
      let s = stuffed 4 (frame_of p) in
      let n : length (packet_of p) - 8 - 8 ≡ length s = omega (arith, length-packet p) in
      let d : drop 8 (packet_of p) ≡ s ++ flag = ap (drop 8) (append_assoc flag s flag) ∙ drop_at flag (s ++ flag) 8 length-flag in
      ap₂ take n d ∙ take_at s flag (length s) refl

  flagged-packet : flagged (packet_of p) ≡ true
  unfolding flagged packet_of
  flagged-packet =
      let s = stuffed 4 (frame_of p) in
      let a : take 8 (packet_of p) ≡ flag = ap (take 8) (append_assoc flag s flag) ∙ take_at flag (s ++ flag) 8 length-flag in
      let b : drop (length (packet_of p) - 8) (packet_of p) ≡ flag =
      drop_at (flag ++ s) flag (length (packet_of p) - 8) (length-append flag s ∙ omega (arith, length-flag, length-packet p)) in
      ap₂ both (ap (λ (t : List ℕ). same t flag) a ∙ same_refl flag) (ap (λ (t : List ℕ). same t flag) b ∙ same_refl flag)

  checked-frame : checked (frame_of p) ≡ true
  unfolding checked frame_of
  checked-frame =
      let n : length (frame_of p) - 16 ≡ 8 * length p = omega (arith, length-frame p) in
      let t = take_at (sent_bits p) (high_first 16 (check_of (sent_bits p))) (8 * length p) (length-sent p) in
      let d = drop_at (sent_bits p) (high_first 16 (check_of (sent_bits p))) (8 * length p) (length-sent p) in
      rw (n, t, d) (same_refl _)

-- ---- reading what was written

stay-legal : (k : ℕ) (bs : List ℕ) → legal (suc k) (stuffed k bs) ≡ true
unfolding legal
stay-legal k bs = ap (legal (suc k)) (sym (append-nil (stuffed k bs))) ∙ legal-stuffed k bs []

come-off : (k : ℕ) (bs : List ℕ) → unstuffed (suc k) (stuffed k bs) ≡ bs
unfolding unstuffed
come-off k bs = ap (unstuffed (suc k)) (sym (append-nil (stuffed k bs))) ∙ unstuffed-stuffed k bs [] ∙ append-nil bs

module _ (p : List ℕ) (some : 1 ≤ length p) (short : length p ≤ payload_bytes) where
  frame-answer : Ok (length p) ≡ frame_answer (frame_of p)
  frame-answer =
      let l = length-frame p in
      let n : payload_length (frame_of p) ≡ length p = omega (arith, l) in
      sym (ap Ok n) ∙ check-good (frame_of p) (whole (frame_of p) (omega (arith, l)) (omega (arith, l)) (omega (arith, l))) (checked-frame p)

  frame_back : frame_in (body_of (packet_of p)) ≡ frame_of p
  unfolding frame_in
  frame_back = ap (unstuffed 5) (body_is p) ∙ come-off 4 (frame_of p)

  written_read : (room : ℕ) → payload_bytes ≤ room → read_answer (packet_of p) room ≡ Ok (length p)
  written_read room h =
      let l = length-packet p in
      let body : body_answer (body_of (packet_of p)) ≡ frame_answer (frame_of p) =
      sym (stuffing-good (body_of (packet_of p)) (ap (legal 5) (body_is p) ∙ stay-legal 4 (frame_of p))) ∙ ap frame_answer frame_back in
      sym (read-body (packet_of p) room (between-yes least_packet most_packet (length (packet_of p)) (omega (arith, l, length-frame p, stuffed-least 4 (frame_of p))) (packet-short p short)) h (packet-bits p) (flagged-packet p)) ∙ body ∙ sym frame-answer

  payload-back : AllBytes p → bytes_of (length p) (frame_in (body_of (packet_of p))) ≡ p
  unfolding frame_of
  payload-back h = ap (bytes_of (length p)) frame_back ∙ bytes_back p (high_first 16 (check_of (sent_bits p))) h

-- ---- writing what was read

module _ (f : List ℕ) (n : ℕ) (bits : all_bits f ≡ true) (whole : whole_bytes f ≡ true) (good : checked f ≡ true) (count : payload_length f ≡ n) where
  frame-long : (length f ≡ 8 * n + 16) × (1 ≤ n) × (n ≤ payload_bytes)
  unfolding whole_bytes
  frame-long =
      let m = eqb-true (length f % 8) 0 (both_left (eqb (length f % 8) 0) (between least_checked most_checked (length f)) whole) in
      let b = between_is least_checked most_checked (length f) (both_right (eqb (length f % 8) 0) (between least_checked most_checked (length f)) whole) in
      (omega arith, omega arith, omega arith)

  frame-again : frame_of (bytes_of n f) ≡ f
  unfolding frame_of checked
  frame-again =
      let l = frame-long.0 in
      let k : length f - 16 ≡ 8 * n = omega arith in
      let s = sent_back n f (omega arith) bits in
      let c = same→eq _ _ good in
      let c' : drop (8 * n) f ≡ high_first 16 (check_of (take (8 * n) f)) = rw k at c in
      rw (s, ← c') (take-append-drop (8 * n) f)

module _ (xs : List ℕ) (long : between least_packet most_packet (length xs) ≡ true) (bits : all_bits xs ≡ true) (flags : flagged xs ≡ true) where
  frame-all-bits : all_bits (frame_in (body_of xs)) ≡ true
  unfolding frame_in body_of
  frame-all-bits = unstuffed-bits 5 (body_of xs) (all_bits-take (length xs - 8 - 8) (drop 8 xs) (all_bits-drop 8 xs bits))

  parts : xs ≡ flag ++ body_of xs ++ flag
  unfolding flagged body_of
  parts =
      let l = between_is least_packet most_packet (length xs) long in
      let a = same→eq (take 8 xs) flag (both_left (same (take 8 xs) flag) (same (drop (length xs - 8) xs) flag) (flags)) in
      let b = same→eq (drop (length xs - 8) xs) flag (both_right (same (take 8 xs) flag) (same (drop (length xs - 8) xs) flag) (flags)) in
      let k : 8 + (length xs - 8 - 8) ≡ length xs - 8 = omega arith in
      let d : drop (length xs - 8 - 8) (drop 8 xs) ≡ flag = drop-drop (length xs - 8 - 8) 8 xs ∙ ap (λ (m : ℕ). drop m xs) k ∙ b in
      sym (take-append-drop 8 xs) ∙ ap₂ ◌++◌ a (sym (take-append-drop (length xs - 8 - 8) (drop 8 xs)) ∙ ap (λ (t : List ℕ). take (length xs - 8 - 8) (drop 8 xs) ++ t) d)
      ∙ sym (append_assoc flag (take (length xs - 8 - 8) (drop 8 xs)) flag)

-- ---- the promises

pub read-after-write : ReadAfterWrite
unfolding read_out
read-after-write p room n bytes e out h =
    let w = sendable p room n e in
    (sym (written_read p w.some w.few (length out) h), ap (λ (t : List ℕ). over t out) (sym (payload-back p w.some w.few bytes)))

-- the tests that an accepted packet passed, and how many bytes it gave
accepted : (xs : List ℕ) (room n : ℕ) → read_answer xs room ≡ Ok n → payload_length (frame_in (body_of xs)) ≡ n
accepted xs room n e =
    let t = passed xs room n e in
    let r = check-good _ t.whole t.check ∙ stuffing-good _ t.stuffing ∙ read-body xs room t.long (leb-true payload_bytes room t.lent) t.bits t.flags ∙ e in
    cc

module _ (xs : List ℕ) (room n : ℕ) (e : read_answer xs room ≡ Ok n) where
  again : (packet_of (bytes_of n (frame_in (body_of xs))) ≡ xs) × (1 ≤ n) × (n ≤ payload_bytes)
  unfolding packet_of frame_in
  again =
      let t = passed xs room n e in
      let b = frame-all-bits xs t.long t.bits t.flags in
      let k = accepted xs room n e in
      let f = frame-again (frame_in (body_of xs)) n b t.whole t.check k in
      let s = stuffed-unstuffed 4 (body_of xs) t.stuffing in
      let l = frame-long (frame_in (body_of xs)) n b t.whole t.check k in (
        ap (λ (u : List ℕ). flag ++ stuffed 4 u ++ flag) f ∙ ap (λ (u : List ℕ). flag ++ u ++ flag) s ∙ sym (parts xs t.long t.bits t.flags),
        l.1,
        l.2,
      )

pub write-after-read : WriteAfterRead
unfolding write_out
write-after-read xs room n e out h =
    let a = again xs room n e in
    let p = bytes_of n (frame_in (body_of xs)) in
    let k = length-bytes_of n (frame_in (body_of xs)) in
    (sym (ap (λ (u : List ℕ). Ok (length u)) a.0) ∙ write-good p (length out) (between-yes 1 payload_bytes (length p) (omega (arith, a.1)) (omega (arith, a.2))) h, ap (λ (u : List ℕ). over u out) (sym a.0))

pub write-once : WriteOnce
write-once p out r r' o o' h k = unique (λ a. write_out a p out) h k

pub read-once : ReadOnce
read-once xs out r r' o o' h k = unique (λ a. read_out a (frame_in (body_of xs)) out) h k

-- how many bits and bytes a count can be
pub written-few : (p : List ℕ) (room n : ℕ) → write_answer p room ≡ Ok n → n ≤ most_packet
written-few p room n e =
    let w = sendable p room n e in
    let g = write-good p room (between-yes 1 payload_bytes (length p) w.some w.few) w.lent ∙ e in
    let s : length (packet_of p) ≡ n = cc in
    omega (arith, packet-short p w.few)

pub received-few : (xs : List ℕ) (room n : ℕ) → read_answer xs room ≡ Ok n → n ≤ payload_bytes
received-few xs room n e = (again xs room n e).2
