use Rattle.message.proofs.Readings.{organised-from}
use Rattle.message.proofs.reading.base_message.Goals as goal

pub returns : goal.returns
returns c = rw (c.organised_in.ensures, c.base_in-x.ensures, organised-from _ c.requires)
