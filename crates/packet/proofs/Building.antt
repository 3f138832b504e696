-- What `send_few`, `send_fours` and `build` come to: bytes on their way, the frame in its parts, and the packet.
-- Assumes nothing.
use mathlib.Core.Path.{◌≡◌, refl, sym, ap, ap₂, ◌∙◌}
use mathlib.Core.List.{List, [], ◌++◌, append_assoc, append-nil}
use Prim.Native.Nat.{ℕ, ◌+◌, ◌-◌, ◌*◌, ◌≤◌, ◌<◌}
use native.Mathlib.Omega.{arith}
use lib.ListN.{length, take, drop, length-append, length-drop, take-append-drop}
use lib.Seq.{sets, length-sets, take_all, drop-drop}
use Rattle.laws.specs.Lists.{over}
use Rattle.laws.proofs.Lists.{done, sets-append, stored-over}
use Rattle.limits.specs.Limits.{payload_bytes, most_packet}
use Rattle.bits.specs.Bits.{low_first, high_first, sent_bits, eight_of}
use Rattle.bits.proofs.Bits.{length-high_first}
use Rattle.bits.proofs.Bytes.{sent_bits-end, sent-append, length-sent}
use Rattle.checking.specs.Check.{through, check_of, mirrored}
use Rattle.stuffing.specs.Stuff.{flag, stuffed, left_after}
use Rattle.stuffing.specs.Filling.{left_of}
use Rattle.stuffing.specs.Sending.{to_come, Leads}
use Rattle.packet.specs.Packet.{frame_of, packet_of}
use Rattle.stuffing.specs.declared.stuff.Sending.{Sending}
use Rattle.checking.proofs.Register.{through-append, mirrored-bits, mirrored-not}
use Rattle.stuffing.proofs.Stuffing.{stuffed-bound, stuffed-end}
use Rattle.stuffing.proofs.Sending.{to_come-long, to_come-part, leads-on, leads-nowhere}

pub flag-bits : eight_of 0x0001010101010100 ≡ flag
unfolding eight_of flag
flag-bits = refl

pub length-flag : length flag ≡ 8
unfolding flag
length-flag = refl

-- ---- lengths

pub length-frame : (p : List ℕ) → length (frame_of p) ≡ 8 * length p + 16
unfolding frame_of
length-frame p = length-append (sent_bits p) _ ∙ omega (arith, length-sent p, length-high_first 16 (check_of (sent_bits p)))

pub length-packet : (p : List ℕ) → length (packet_of p) ≡ 8 + length (stuffed 4 (frame_of p)) + 8
unfolding packet_of
length-packet p = simp length-append (omega (arith, length-flag))

pub packet-short : (p : List ℕ) → length p ≤ payload_bytes → length (packet_of p) ≤ most_packet
packet-short p h = omega (arith, length-packet p, stuffed-bound 4 (frame_of p) (omega arith), length-frame p)

-- ---- bytes on their way

-- what is left, sent, leads from the start to the end
pub record Underway (bytes : List ℕ) (s₀ : Sending) (out₀ : List ℕ) (s : Sending) (out : List ℕ) (i : ℕ) : Type 0 where
  pub room : s.at + length (to_come s.tail (sent_bits (drop i bytes))) ≤ length out
  pub long : length out ≡ length out₀
  pub goes : (s' : Sending) (out' : List ℕ) → Leads (sent_bits (drop i bytes)) s out s' out' → Leads (sent_bits bytes) s₀ out₀ s' out'

pub underway-start : {bytes out : List ℕ} {s : Sending} → s.at + length (to_come s.tail (sent_bits bytes)) ≤ length out → Underway bytes s out s out 0
underway-start room = record { room = room; long = refl; goes = λ _ _ l. l }

module _ {bytes out₀ out : List ℕ} {s₀ s : Sending} {i : ℕ} (u : Underway bytes s₀ out₀ s out i) where
  pub underway-room : (n : ℕ) → i + n ≤ length bytes → s.at + (8 * n + 8) ≤ length out
  underway-room n more = omega (arith, u.room, to_come-long s.tail (sent_bits (drop i bytes)), length-sent (drop i bytes), length-drop i bytes)

  pub underway-on : (n : ℕ) {bits out' : List ℕ} {s' : Sending} → sent_bits (take n (drop i bytes)) ≡ bits → Leads bits s out s' out' → length out' ≡ length out → Underway bytes s₀ out₀ s' out' (i + n)
  underway-on n {bits} {out'} {s'} e l long =
      let rest = sent_bits (drop (i + n) bytes) in
      let split : sent_bits (drop i bytes) ≡ bits ++ rest =
      ap sent_bits (sym (take-append-drop n (drop i bytes))) ∙ sent-append (take n (drop i bytes)) (drop n (drop i bytes)) ∙ ap₂ ◌++◌ e (ap sent_bits (drop-drop n i bytes)) in
      record {
        room = omega (arith, u.room, l.size rest, ap (λ (t : List ℕ). s.at + length (to_come s.tail t)) split);
        long = long ∙ u.long;
        goes = λ s'' out'' k. u.goes s'' out'' (rw split (leads-on l k));
      }

  pub underway-end : length bytes ≤ i → Leads (sent_bits bytes) s₀ out₀ s out
  underway-end past = u.goes s out (rw (done bytes i past, sent_bits-end) leads-nowhere)

-- ---- the frame in three parts: the bytes that are more than whole fours, the others, and the check

module _ (p : List ℕ) (few : ℕ) where
  payload-parts : sent_bits (take few p) ++ sent_bits (take (length p - few) (drop few p)) ≡ sent_bits p
  payload-parts =
      let all : take (length p - few) (drop few p) ≡ drop few p = take_all (length p - few) (drop few p) (omega (arith, length-drop few p)) in
      ap (λ (t : List ℕ). sent_bits (take few p) ++ sent_bits t) all ∙ sym (sent-append (take few p) (drop few p)) ∙ ap sent_bits (take-append-drop few p)

  frame-parts : sent_bits (take few p) ++ sent_bits (take (length p - few) (drop few p)) ++ high_first 16 (check_of (sent_bits p)) ≡ frame_of p
  unfolding frame_of
  frame-parts = ap (◌++ high_first 16 (check_of (sent_bits p))) payload-parts

  -- the check's bits are those of the register's complement, which is mirrored
  pub framed : (r₁ r₂ : ℕ) → r₂ < 65536 → mirrored r₁ ≡ through 0xffff (sent_bits (take few p))
      → mirrored r₂ ≡ through (mirrored r₁) (sent_bits (take (length p - few) (drop few p)))
      → sent_bits (take few p) ++ sent_bits (take (length p - few) (drop few p)) ++ low_first 16 (0xffff - r₂) ≡ frame_of p
  framed r₁ r₂ small e₁ e₂ =
      let a = sent_bits (take few p) in
      let b = sent_bits (take (length p - few) (drop few p)) in
      let all : mirrored r₂ ≡ through 0xffff (sent_bits p) = e₂ ∙ ap (λ (r : ℕ). through r b) e₁ ∙ sym (through-append a b 0xffff) ∙ ap (through 0xffff) payload-parts in
      ap (a ++ b ++◌) (sym (mirrored-bits (0xffff - r₂)) ∙ ap (high_first 16) (mirrored-not r₂ small ∙ ap (0xffff -◌) all)) ∙ frame-parts

-- ---- the whole packet

-- after the opening flag these bits were sent: what comes after them completes what is stored
pub record Sent (out bits : List ℕ) (s : Sending) (now : List ℕ) : Type 0 where
  pub long : length now ≡ length out
  pub size : (rest : List ℕ) → s.at + length (to_come s.tail rest) ≡ 8 + length (to_come 0 (bits ++ rest))
  pub stored : (rest : List ℕ) → sets now s.at (to_come s.tail rest) ≡ sets out 0 (flag ++ to_come 0 (bits ++ rest))

pub sent-none : (out : List ℕ) {now : List ℕ} {s : Sending} → s.at ≡ 8 → s.tail ≡ 0 → now ≡ sets out 0 flag → Sent out [] s now
sent-none out {now} {s} ea et e =
    let e8 : 0 + length flag ≡ 8 = omega (arith, length-flag) in
    record {
      long = rw (e, length-sets);
      size = λ rest. rw (ea, et) refl;
      stored = λ rest. rw (ea, et, e) (sym (rw e8 at (sets-append flag (to_come 0 rest) out 0)));
    }

pub sent-on : {out bits more now now' : List ℕ} {s s' : Sending} → Sent out bits s now → Leads more s now s' now' → length now' ≡ length now → Sent out (bits ++ more) s' now'
sent-on {out} {bits} {more} a l long = record {
  long = long ∙ a.long;
  size = λ rest. l.size rest ∙ a.size (more ++ rest) ∙ ap (λ (t : List ℕ). 8 + length (to_come 0 t)) (sym (append_assoc bits more rest));
  stored = λ rest. l.stored rest ∙ a.stored (more ++ rest) ∙ ap (λ (t : List ℕ). sets out 0 (flag ++ to_come 0 t)) (sym (append_assoc bits more rest));
}

pub sent-first : (out : List ℕ) {bits now now' : List ℕ} {s₀ s : Sending} → s₀.at ≡ 8 → s₀.tail ≡ 0 → now ≡ sets out 0 flag → Leads bits s₀ now s now' → length now' ≡ length now → Sent out bits s now'
sent-first out ea et e l long = sent-on (sent-none out ea et e) l long

-- only the closing flag is left
pub record Whole (p out : List ℕ) (s : Sending) (now : List ℕ) : Type 0 where
  pub long : s.at + 8 ≡ length (packet_of p)
  pub room : s.at + 8 ≤ length now
  pub fits : s.at + 8 ≤ most_packet
  pub built : (last : List ℕ) → last ≡ sets now s.at flag → last ≡ over (packet_of p) out

start_is : (bits : List ℕ) → to_come 0 bits ≡ stuffed 4 bits ++ flag
unfolding to_come left_of left_after low_first
start_is bits = refl

to_come-none : (tail : ℕ) → to_come tail [] ≡ flag
unfolding to_come
to_come-none tail = ap (◌++ flag) (stuffed-end (left_of tail))

whole_is : (p : List ℕ) → 8 + length (to_come 0 (frame_of p)) ≡ length (packet_of p)
whole_is p = omega (arith, ap length (start_is (frame_of p)), length-append (stuffed 4 (frame_of p)) flag, length-flag, length-packet p)

module _ (p : List ℕ) {out : List ℕ} (short : length p ≤ payload_bytes) (room : most_packet ≤ length out) where
  -- there is room for what comes next of the frame
  next-room : (bits next rest : List ℕ) {now : List ℕ} {s : Sending} → bits ++ next ++ rest ≡ frame_of p → Sent out bits s now → s.at + length (to_come s.tail next) ≤ length now
  next-room bits next rest e a =
      omega (arith, a.size next, a.long, to_come-part 0 (bits ++ next) rest, ap (λ (t : List ℕ). length (to_come 0 t)) e, whole_is p, packet-short p short)

  module _ (few : ℕ) {now : List ℕ} {s : Sending} where
    pub few-room : Sent out [] s now → s.at + length (to_come s.tail (sent_bits (take few p))) ≤ length now
    few-room a =
        let A = sent_bits (take few p) in
        let B = sent_bits (take (length p - few) (drop few p)) in
        let C = high_first 16 (check_of (sent_bits p)) in
        next-room [] A (B ++ C) (sym (append_assoc A B C) ∙ frame-parts p few) a

    pub fours-room : Sent out (sent_bits (take few p)) s now → s.at + length (to_come s.tail (sent_bits (take (length p - few) (drop few p)))) ≤ length now
    fours-room a = next-room (sent_bits (take few p)) _ (high_first 16 (check_of (sent_bits p))) (frame-parts p few) a

    pub check-room : Sent out (sent_bits (take few p) ++ sent_bits (take (length p - few) (drop few p))) s now → s.at + 24 ≤ length now
    check-room a =
        let C = high_first 16 (check_of (sent_bits p)) in
        omega (arith, next-room (sent_bits (take few p) ++ sent_bits (take (length p - few) (drop few p))) C [] (append-nil _ ∙ frame-parts p few) a, to_come-long s.tail C, length-high_first 16 (check_of (sent_bits p)))

  -- the whole frame sent: the closing flag has room, and completes the packet
  pub whole : {bits now : List ℕ} {s : Sending} → bits ≡ frame_of p → Sent out bits s now → Whole p out s now
  unfolding packet_of
  whole {bits} {now} {s} is a =
      let z = a.size [] ∙ ap (λ (t : List ℕ). 8 + length (to_come 0 t)) (append-nil bits ∙ is) in
      let long : s.at + 8 ≡ length (packet_of p) = omega (arith, z, ap length (to_come-none s.tail), length-flag, whole_is p) in
      let under = packet-short p short in
      record {
        long = long;
        room = omega (arith, a.long);
        fits = omega arith;
        built = λ last e.
            e ∙ ap (sets now s.at) (sym (to_come-none s.tail)) ∙ a.stored []
            ∙ ap (λ (t : List ℕ). sets out 0 (flag ++ t)) (ap (to_come 0) (append-nil bits ∙ is) ∙ start_is (frame_of p))
            ∙ ap (sets out 0) (sym (append_assoc flag (stuffed 4 (frame_of p)) flag))
            ∙ stored-over (packet_of p) out (omega arith);
      }
