use mathlib.Core.Path.{◌≡◌, refl}
use Prim.Native.Nat.{◌+◌, ◌-◌, ◌%◌}
use native.Mathlib.Omega.{arith}
use lib.ListN.{length, take, drop, length-take, length-drop}
use Rattle.bits.proofs.Bits.{all_bits-take, all_bits-drop, length-low_first}
use Rattle.stuffing.proofs.Takings.{took_more}
use Rattle.packet.proofs.Taken.{took-all, body-parts, body-short}
use Rattle.packet.proofs.reading.unstuff.Goals as goal

pub take_all-requires : goal.take_all-requires
take_all-requires c =
    let bits = c.args.bits.now in
    let n = length bits in
    let over = (length bits - 16) % 32 in
    let t = c.take_word-first in
    let long : length (take (n - 8 - (8 + over)) (drop (8 + over) bits)) ≡ n - 8 - (8 + over) = simp (length-take, length-drop) (omega (arith, c.requires.1)) in (
      all_bits-take (n - 8 - (8 + over)) (drop (8 + over) bits) (all_bits-drop (8 + over) bits c.requires.0),
      omega (arith, long, c.requires.1),
      t.ensures.sound,
      omega (arith, long, t.ensures.more, length-low_first 32 c.first_word.result, t.auto.raw, c.requires.1, c.requires.2),
    )

pub returns : goal.returns
returns c =
    let bits = c.args.bits.now in
    let over = (length bits - 16) % 32 in
    let t = took_more c.take_word-first.ensures c.take_all.ensures in
    let e = c.first_word.ensures.0 in
    took-all over (omega arith) refl refl refl refl refl (body-short bits c.requires.2) (rw (e, body-parts bits over (omega arith) c.requires.1 refl) at t)
