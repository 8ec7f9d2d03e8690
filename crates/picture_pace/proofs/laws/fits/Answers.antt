use Rattle.picture_pace.proofs.Fits.{fits}
use Rattle.picture_pace.proofs.laws.fits.Goals as goal

pub returns : goal.returns
returns c = fits
