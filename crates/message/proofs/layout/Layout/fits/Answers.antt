use Rattle.message.proofs.Writings.{fit_all}
use Rattle.message.proofs.layout.Layout.fits.Goals as goal

pub returns : goal.returns
returns c = fit_all _ _ _ _ c.fits.ensures c.fits-2.ensures c.fits-3.ensures c.fits-4.ensures
