use Rattle.h263_planes.proofs.Pictures.{put_part}
use Rattle.h263_planes.proofs.work.put_samples.Goals as goal

pub returns-clause-after : goal.returns-clause-after
returns-clause-after c = put_part c.args.from c.args.samples.now c.args.bytes.now c.copy_from_slice.new.self c.requires
    c.copy_from_slice.ensures.after
