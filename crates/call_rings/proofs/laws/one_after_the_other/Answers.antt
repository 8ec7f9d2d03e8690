use Rattle.call_rings.proofs.Rooms.{fits_all}
use Rattle.call_rings.proofs.laws.one_after_the_other.Goals as goal

pub returns : goal.returns
returns c = fits_all
