use mathlib.Core.Path.{◌≡◌, refl}
use mathlib.Core.List.{List}
use Prim.Native.Nat.{ℕ, ◌-◌, ◌%◌, ◌≤◌, ◌<◌}
use native.Mathlib.Omega.{arith}
use lib.ListN.{length, take, drop, length-take, length-drop}
use Rattle.limits.specs.Limits.{payload_bytes, most_packet}
use Rattle.bits.specs.Bits.{low_first, sent_bits}
use Rattle.checking.specs.Check.{through, mirrored}
use Rattle.stuffing.specs.Sending.{Leads}
use Rattle.stuffing.specs.declared.stuff.Sending.{Sending}
use Rattle.packet.proofs.Building.{framed, sent-none, sent-first, sent-on, Sent, Whole, few-room, fours-room, check-room, whole}
use Rattle.packet.proofs.writing.build.Goals as goal

-- where all bits of the frame have been sent
all-sent : (p : List ℕ) {out o₁ o₂ o₃ : List ℕ} {s₁ s₂ s₃ : Sending} (few r₁ r₂ : ℕ) → length p ≤ payload_bytes → most_packet ≤ length out
    → Sent out (sent_bits (take few p)) s₁ o₁ → mirrored r₁ ≡ through 0xffff (sent_bits (take few p))
    → Leads (sent_bits (take (length p - few) (drop few p))) s₁ o₁ s₂ o₂ → length o₂ ≡ length o₁
    → mirrored r₂ ≡ through (mirrored r₁) (sent_bits (take (length p - few) (drop few p))) → r₂ < 65536
    → {check : ℕ} → check ≡ 0xffff - r₂ → Leads (low_first 16 check) s₂ o₂ s₃ o₃ → length o₃ ≡ length o₂ → Whole p out s₃ o₃
all-sent p few r₁ r₂ short room a e₁ l₂ long₂ e₂ small is l₃ long₃ =
    whole p short room (framed p few r₁ r₂ small e₁ e₂) (sent-on (sent-on a l₂ long₂) (rw is at l₃) long₃)

pub send_few-first-requires : goal.send_few-first-requires
send_few-first-requires c =
    let p = c.args.payload.now in
    let n = length p % 4 in
    let s : Sending = record { at = 8; tail = 0; four = omega arith } in
    let a = sent-none c.args.out.now {s = s} refl refl c.put_flag.ensures in
    (simp length-take (omega arith), few-room p c.requires.0 c.requires.1 n a)

pub send_fours-all-requires : goal.send_fours-all-requires
send_fours-all-requires c =
    let p = c.args.payload.now in
    let n = length p % 4 in
    let e₁ = c.send_few-first in
    let a₁ = sent-first c.args.out.now refl refl c.put_flag.ensures e₁.ensures.0 e₁.auto.out in
    (simp (length-take, length-drop) (omega arith), fours-room p c.requires.0 c.requires.1 n a₁)

pub send-end-requires : goal.send-end-requires
send-end-requires c =
    let p = c.args.payload.now in
    let n = length p % 4 in
    let e₁ = c.send_few-first in
    let a₁ = sent-first c.args.out.now refl refl c.put_flag.ensures e₁.ensures.0 e₁.auto.out in
    let e₂ = c.send_fours-all in
    let a₂ = sent-on a₁ e₂.ensures.0 e₂.auto.out in
    (omega arith, omega arith, omega (arith, c.from.ensures), check-room p c.requires.0 c.requires.1 n a₂)

pub put_flag-requires-2 : goal.put_flag-requires-2
put_flag-requires-2 c =
    let e₁ = c.send_few-first in
    let e₂ = c.send_fours-all in
    let e₃ = c.send-end in
    let a₁ = sent-first c.args.out.now refl refl c.put_flag.ensures e₁.ensures.0 e₁.auto.out in
    let w = all-sent c.args.payload.now (length c.args.payload.now % 4) e₁.result.reg e₂.result.reg c.requires.0 c.requires.1 a₁ e₁.ensures.1 e₂.ensures.0 e₂.auto.out e₂.ensures.1 (omega (arith, e₂.type_inv)) c.from.ensures e₃.ensures e₃.auto.out in
    w.room

pub overflow_add-result : goal.overflow_add-result
overflow_add-result c =
    let e₁ = c.send_few-first in
    let e₂ = c.send_fours-all in
    let e₃ = c.send-end in
    let a₁ = sent-first c.args.out.now refl refl c.put_flag.ensures e₁.ensures.0 e₁.auto.out in
    let w = all-sent c.args.payload.now (length c.args.payload.now % 4) e₁.result.reg e₂.result.reg c.requires.0 c.requires.1 a₁ e₁.ensures.1 e₂.ensures.0 e₂.auto.out e₂.ensures.1 (omega (arith, e₂.type_inv)) c.from.ensures e₃.ensures e₃.auto.out in
    omega (arith, w.fits)

pub returns : goal.returns
returns c =
    let e₁ = c.send_few-first in
    let e₂ = c.send_fours-all in
    let e₃ = c.send-end in
    let a₁ = sent-first c.args.out.now refl refl c.put_flag.ensures e₁.ensures.0 e₁.auto.out in
    let w = all-sent c.args.payload.now (length c.args.payload.now % 4) e₁.result.reg e₂.result.reg c.requires.0 c.requires.1 a₁ e₁.ensures.1 e₂.ensures.0 e₂.auto.out e₂.ensures.1 (omega (arith, e₂.type_inv)) c.from.ensures e₃.ensures e₃.auto.out in
    (w.long, w.built _ c.put_flag-2.ensures)
