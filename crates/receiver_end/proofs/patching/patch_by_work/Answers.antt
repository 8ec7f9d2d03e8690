use Rattle.packet_collector.specs.Collected.{has_in}
use Rattle.picture_store.specs.Pictures.{work_in}
use Rattle.receiver_end.proofs.Works.{patched_kept}
use Rattle.receiver_end.proofs.patching.patch_by_work.Goals as goal

pub returns-clause-patches : goal.returns-clause-patches
returns-clause-patches c =
    patched_kept c.args.format c.args.store.now c.patch_bytes.new.bytes c.args.w c.requires.format c.requires.inside
    c.patch_bytes.ensures.size
    (has_in c.args.collector.now c.args.number) c.works-work.result.0.now c.works-work.result.1.now
    (work_in c.args.store.now c.args.from) c.works-work.ensures.seen c.works-work.ensures.work
    c.patch_bytes.ensures.patches
