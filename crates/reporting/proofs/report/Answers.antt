use native.Mathlib.Omega.{arith}
use Rattle.reporting.proofs.Looking.{time-out-most}
use Rattle.reporting.proofs.report.Goals as goal

pub sub_message-requires : goal.sub_message-requires
sub_message-requires c =
    let a = c.args in
    let pre = c.requires in
    (pre.0, pre.1, pre.2, omega (arith, c.frames_own-n.ensures, time-out-most a.book.now a.present))
