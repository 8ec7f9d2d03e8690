use Rattle.h263_planes.proofs.Wholes.{bytes_of_picture, whole_picture, is_picture}
use Rattle.h263_planes.proofs.laws.bytes_are_planes.Goals as goal

pub returns-clause-planes : goal.returns-clause-planes
returns-clause-planes c = bytes_of_picture

pub returns-clause-whole : goal.returns-clause-whole
returns-clause-whole c = whole_picture

pub returns-clause-samples : goal.returns-clause-samples
returns-clause-samples c = is_picture
