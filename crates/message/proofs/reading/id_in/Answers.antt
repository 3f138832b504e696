use Rattle.message.specs.Message.{id_in}
use Rattle.message.proofs.reading.id_in.Goals as goal

pub returns : goal.returns
unfolding id_in
returns c = c.field.ensures
