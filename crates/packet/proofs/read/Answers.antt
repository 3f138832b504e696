use mathlib.Core.Path.{refl, sym, ◌∙◌}
use borrow.Author.Tests.{eq-eqb, ne_eqb}
use Rattle.laws.proofs.Tests.{between_is}
use Rattle.packet.specs.Packet.{read_out}
use Rattle.packet.proofs.Answers.{read-length, read-flag, read-body, flagged-no, flagged-is}
use Rattle.packet.proofs.Telling.{first-flag, last-flag}
use Rattle.packet.proofs.Within.{within}
use Rattle.packet.proofs.read.Goals as goal
use Rattle.packet.proofs.read.Goals.{then-byte_at-ne-FLAG-via-then-byte_at-ne-FLAG, then-byte_at-ne-FLAG-via-else-byte_at-ne-FLAG+then-byte_at-ne-FLAG-2}

pub returns-then-not-contains : goal.returns-then-not-contains
unfolding read_out
returns-then-not-contains c =
    let r = c.new.ensures in
    (read-length _ _ (within _ c.contains.ensures.value r.start r.end r.exhausted c.if-not-contains.true), refl)

pub returns-then-byte_at-ne-FLAG : goal.returns-then-byte_at-ne-FLAG
unfolding read_out
returns-then-byte_at-ne-FLAG c =
    let r = c.new.ensures in
    let long = within _ c.contains.ensures.value r.start r.end r.exhausted c.if-not-contains.false in
    let b = sym c.are_bits.ensures ∙ c.if-not-are_bits.false in
    let h = (between_is _ _ _ long).0 in
    let f = first-flag _ b h c.byte_at.ensures in (
      read-flag _ _ long c.if-out-lt-PAYLOAD.false b (
          elim c.then-byte_at-ne-FLAG.branch [
            | then-byte_at-ne-FLAG-via-then-byte_at-ne-FLAG w ↦ flagged-no _ (sym f ∙ ne_eqb _ _ w.if-byte_at-ne-FLAG.true)
            | then-byte_at-ne-FLAG-via-else-byte_at-ne-FLAG+then-byte_at-ne-FLAG-2 w ↦
                flagged-is _ (sym f ∙ eq-eqb _ _ w.if-byte_at-ne-FLAG.false) (sym (last-flag _ b h w.byte_at-else-byte_at-ne-FLAG.ensures) ∙ ne_eqb _ _ w.if-byte_at-ne-FLAG-2.true)
          ]),
      refl,
    )

pub returns : goal.returns
returns c =
    let r = c.new.ensures in
    let long = within _ c.contains.ensures.value r.start r.end r.exhausted c.if-not-contains.false in
    let b = sym c.are_bits.ensures ∙ c.if-not-are_bits.false in
    let h = (between_is _ _ _ long).0 in
    let first = sym (first-flag _ b h c.byte_at.ensures) ∙ eq-eqb _ _ c.if-byte_at-ne-FLAG.false in
    let last = sym (last-flag _ b h c.byte_at-else-byte_at-ne-FLAG.ensures) ∙ eq-eqb _ _ c.if-byte_at-ne-FLAG-2.false in
    let u = c.unpack.ensures in
    (u.0 ∙ read-body _ _ long c.if-out-lt-PAYLOAD.false b (flagged-is _ first last), u.1)
