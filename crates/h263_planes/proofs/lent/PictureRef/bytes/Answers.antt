use Rattle.std.proofs.Common.{sym}
use Rattle.h263_planes.proofs.Wholes.{bytes_of_picture}
use Rattle.h263_planes.proofs.lent.PictureRef.bytes.Goals as goal

pub returns : goal.returns
returns c = sym (bytes_of_picture c.args.self.now.layout.format c.args.self.now.bytes.now c.args.self.now.whole)
