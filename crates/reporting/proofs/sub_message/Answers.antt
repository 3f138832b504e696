use native.Mathlib.Omega.{arith}
use Rattle.reporting.proofs.Offsets.{offset-most}
use Rattle.reporting.proofs.sub_message.Goals as goal

pub overflow_cast-result : goal.overflow_cast-result
overflow_cast-result c =
    let a = c.args in
    omega (arith, c.next_own.ensures, offset-most a.book.now a.present a.p)
