use Rattle.h263_planes.proofs.Wholes.{same_pictures}
use Rattle.h263_planes.proofs.laws.same_samples.Goals as goal

pub returns : goal.returns
returns c = same_pictures
