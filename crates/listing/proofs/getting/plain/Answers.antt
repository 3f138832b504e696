use mathlib.Core.Path.{◌∙◌}
use mir.Facts.{to_z-of_z}
use Rattle.listing.proofs.Said.{plain-is}
use Rattle.listing.proofs.getting.plain.Goals as goal

pub returns : goal.returns
returns c = c.unwrap_or.ensures ∙ plain-is _ _ c.ranges.x (rw (to_z-of_z c.ranges.x) at c.try_from.ensures)
