use Rattle.bits.proofs.Rows.{four-fit}
use Rattle.bits.proofs.row.Four.fits.Goals as goal

pub returns : goal.returns
returns c = four-fit _ _ _ _ _
