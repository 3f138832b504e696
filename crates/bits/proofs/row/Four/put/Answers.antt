use mathlib.Core.Path.{ap, ◌∙◌}
use Prim.Native.Nat.{◌+◌}
use native.Mathlib.Omega.{arith}
use Rattle.bits.specs.Field.{put_field}
use Rattle.bits.proofs.Rows.{four-fits, four-laid}
use Rattle.bits.proofs.row.Four.put.Goals as goal

pub put_field-requires : goal.put_field-requires
put_field-requires c =
    let p = c.requires in
    rw (c.total.ensures, c.joined.ensures) (p.0, omega arith, p.2, p.3, p.4, four-fits _ _ _ _ _ p.5)

pub returns : goal.returns
returns c =
    let p = c.requires in
    let s = c.args in
    rw c.total.ensures at c.put_field.ensures ∙ ap (put_field s.out.now s.at (s.w.0 + s.w.1 + s.w.2 + s.w.3)) c.joined.ensures ∙ four-laid _ _ _ _ _ p.5 s.out.now s.at
