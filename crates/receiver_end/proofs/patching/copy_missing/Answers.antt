use Rattle.std.proofs.Common.{◌≡◌, true, false, sym, ◌∙◌, subst, ◌<◌}
use Rattle.std.specs.Prelude.{nat_eq}
use Rattle.h263_types.specs.declared.format.Format.{Format}
use Rattle.h263_types.specs.Sizes.{mbs_of}
use Rattle.h263_planes.specs.Blocks.{mb_of}
use Rattle.h263_planes.specs.Lent.{picture}
use Rattle.h263_planes.specs.Samples.{sample_at}
use Rattle.h263_planes.specs.Work.{work}
use Rattle.packet_collector.specs.Collected.{has_in}
use Rattle.receiver_end.proofs.Copies.{missing_set, taken_left}
use Rattle.receiver_end.proofs.patching.copy_missing.Goals as goal

pub returns-then-not-has-clause-samples : goal.returns-then-not-has-clause-samples
returns-then-not-has-clause-samples c = λ plane x y inside.
    let k = c.requires.counts in
    let marked : has_in c.args.collector.now c.args.number c.args.at ≡ false =
    k.collects.marks c.args.number c.args.at c.requires.row
    (subst (λ (f : Format). c.args.at < mbs_of f) c.requires.format c.requires.at)
    ∙ sym (c.has.ensures k.first k.taken k.collects) ∙ c.if-not-has.true in
    missing_set (nat_eq (mb_of c.args.header.now.format plane x y) c.args.at)
    (has_in c.args.collector.now c.args.number c.args.at)
    (sample_at (work c.recon_mb.new.out) plane x y) (sample_at (picture c.args.screen) plane x y)
    (sample_at (work c.args.out.now) plane x y) marked (c.recon_mb.ensures.samples plane x y inside)

pub returns-else-not-has-clause-samples : goal.returns-else-not-has-clause-samples
returns-else-not-has-clause-samples c = λ plane x y inside.
    let k = c.requires.counts in
    let marked : has_in c.args.collector.now c.args.number c.args.at ≡ true =
    k.collects.marks c.args.number c.args.at c.requires.row
    (subst (λ (f : Format). c.args.at < mbs_of f) c.requires.format c.requires.at)
    ∙ sym (c.has.ensures k.first k.taken k.collects) ∙ c.if-not-has.false in
    taken_left (nat_eq (mb_of c.args.header.now.format plane x y) c.args.at)
    (has_in c.args.collector.now c.args.number c.args.at)
    (sample_at (picture c.args.screen) plane x y) (sample_at (work c.args.out.now) plane x y) marked
