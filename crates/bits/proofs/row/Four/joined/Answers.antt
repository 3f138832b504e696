use Rattle.bits.proofs.Rows.{two-64, three-64, four-64, four_is}
use Rattle.bits.proofs.row.Four.joined.Goals as goal

pub overflow_add-two : goal.overflow_add-two
overflow_add-two c = record { fits = two-64 _ _ _ _ _ c.requires.1 c.requires.0 }

pub overflow_add-three : goal.overflow_add-three
overflow_add-three c = record { fits = three-64 _ _ _ _ _ c.requires.1 c.requires.0 }

pub overflow_add-result : goal.overflow_add-result
overflow_add-result c = record { fits = four-64 _ _ _ _ _ c.requires.1 c.requires.0 }

pub returns : goal.returns
returns c = four_is _ _ _ _ _ c.requires.1 c.requires.0
