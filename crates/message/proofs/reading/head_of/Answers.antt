use mathlib.Core.Path.{ap, ◌∙◌}
use Prim.Native.Nat.{◌<◌}
use native.Mathlib.Omega.{arith}
use Rattle.message.specs.Message.{id_in}
use Rattle.message.proofs.Readings.{read_length, read_low, read-high}
use Rattle.message.proofs.reading.head_of.Goals.{in_default-id-via-then-id-lt1, in_default-id-via-else-id-lt1+else-id-lt5}
use Rattle.message.proofs.reading.head_of.Goals as goal

pub returns-in_default : goal.returns-in_default
returns-in_default c = read_length _ c.in_default.ensures.cases

pub returns-in_default-id : goal.returns-in_default-id
returns-in_default-id c =
    let p = c.in-Some.ensures.cases in
    let long = p.long in
    let e = c.id_in-id.ensures ∙ ap id_in p.same in
    elim c.in_default-id.branch [
      | in_default-id-via-then-id-lt1 w ↦ let low : c.id_in-id.result < 1 = omega arith in read_low _ long (rw e at low)
      | in_default-id-via-else-id-lt1+else-id-lt5 w ↦ let high : 4 < c.id_in-id.result = omega arith in read-high _ long (rw e at high)
    ]
