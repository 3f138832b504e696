use mathlib.Core.Path.{ap, ◌∙◌}
use Rattle.std.specs.Prelude.{Ok}
use Rattle.message.specs.Message.{read_answer}
use Rattle.message.proofs.Readings.{read-good}
use Rattle.message.proofs.read.Goals as goal

pub returns : goal.returns
returns c =
    let head = c.in_ok-head.head in
    let h = c.in_ok-head.ensures in
    ap Ok c.message_in.ensures ∙ read-good _ head.whole (rw head.told at h.1) ∙ ap read_answer h.0
