use Prim.Native.Nat.{ℕ, ◌+◌, ◌-◌, ◌<◌}
use mathlib.Core.Path.{◌≡◌, refl, sym, ap, ◌∙◌}
use native.Mathlib.Omega.{arith}
use borrow.Author.Tests.{eq-eqb, ne_eqb}
use lib.ListN.{length, get_or}
use Rattle.std.specs.Prelude.{Ok}
use Rattle.packet.specs.Packet.{read_out}
use Rattle.packet.proofs.Answers.{check-good, check-bad}
use Rattle.packet.proofs.Telling.{payload-count, frame-whole, frame-checked, front-zeros, copied}
use Rattle.packet.proofs.reading.unframe.Goals as goal

pub register_after-requires : goal.register_after-requires
register_after-requires c =
    let raw = c.args.raw.now in
    let long : length raw ≡ length raw - 6 + 6 = omega (arith, c.requires.1) in
    (front-zeros raw (length raw - 6) long (λ i. (c.type_inv.raw i).fits) c.requires.0, omega (arith, c.requires.2), omega (arith, c.requires.1))

pub returns-then-register_after-sent : goal.returns-then-register_after-sent
unfolding read_out
returns-then-register_after-sent c =
    let raw = c.args.raw.now in
    let n = length raw - 6 in
    let long : length raw ≡ length raw - 6 + 6 = omega (arith, c.requires.1) in
    let bytes : (i : ℕ) → get_or raw i 0 < 256 = λ i. (c.type_inv.raw i).fits in
    let k = frame-checked raw n long bytes c.from_le_bytes-sent.ensures c.register_after.type_inv c.register_after.ensures ∙ ne_eqb _ _ c.if-register_after-sent.true in
    (check-bad _ (frame-whole raw n long bytes c.requires.1 c.requires.2) k, refl)

pub returns : goal.returns
unfolding read_out
returns c =
    let raw = c.args.raw.now in
    let n = length raw - 6 in
    let long : length raw ≡ length raw - 6 + 6 = omega (arith, c.requires.1) in
    let m : 4 + (length raw - 6) - 4 ≡ length raw - 6 = omega arith in
    let bytes : (i : ℕ) → get_or raw i 0 < 256 = λ i. (c.type_inv.raw i).fits in
    let k = frame-checked raw n long bytes c.from_le_bytes-sent.ensures c.register_after.type_inv c.register_after.ensures ∙ eq-eqb _ _ c.if-register_after-sent.false in (
      ap Ok (sym (payload-count raw n long bytes)) ∙ check-good _ (frame-whole raw n long bytes c.requires.1 c.requires.2) k,
      copied raw n long bytes c.args.out.now m c.copy_from_slice.ensures.after,
    )
