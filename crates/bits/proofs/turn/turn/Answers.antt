-- The table is the list that `turned` fills, by computation of its 256 entries.
use mathlib.Core.Path.{refl}
use native.Mathlib.Omega.{arith}
use Rattle.laws.specs.Tables.{byte_table}
use Rattle.laws.proofs.Table.{byte-entry}
use Rattle.bits.specs.Bits.{turned}
use Rattle.bits.proofs.turn.turn.Goals as goal

pub returns : goal.returns
unfolding byte_table turned
returns c = byte-entry turned c.args.b refl (omega (arith, c.ranges.b))
