use Rattle.packet_collector.specs.Collected.{has_in}
use Rattle.picture_store.specs.Pictures.{picture_in, slot_of}
use Rattle.receiver_end.proofs.Works.{patched_kept}
use Rattle.receiver_end.proofs.patching.patch_by_kept.Goals as goal

pub returns-clause-patches : goal.returns-clause-patches
returns-clause-patches c =
    patched_kept c.args.format c.args.store.now c.patch_bytes.new.bytes c.args.w c.requires.format c.requires.inside
    c.patch_bytes.ensures.size
    (has_in c.args.collector.now c.args.number) c.pair-work.result.0.now c.pair-work.result.1.now
    (picture_in c.args.store.now (slot_of c.args.store.now c.args.m)) c.pair-work.ensures.reference
    c.pair-work.ensures.work c.patch_bytes.ensures.patches
