use Rattle.h263_planes.proofs.Wholes.{picture_of_bytes, size_of_bytes}
use Rattle.h263_planes.proofs.laws.planes_are_bytes.Goals as goal

pub returns-clause-picture : goal.returns-clause-picture
returns-clause-picture c = picture_of_bytes

pub returns-clause-size : goal.returns-clause-size
returns-clause-size c = size_of_bytes
