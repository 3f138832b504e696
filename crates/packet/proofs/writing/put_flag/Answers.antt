use mathlib.Core.Path.{ap, ◌∙◌}
use lib.Seq.{sets}
use Rattle.packet.proofs.Building.{flag-bits}
use Rattle.packet.proofs.writing.put_flag.Goals as goal

pub returns : goal.returns
returns c = c.store_eight.ensures ∙ ap (sets c.args.out.now c.args.at) flag-bits
