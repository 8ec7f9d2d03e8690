use Rattle.std.proofs.Common.{◌≡◌, ◌&&◌, nat_eq, not, cond, ◌∙◌, subst}
use Rattle.h263_types.specs.declared.format.Format.{Format}
use Rattle.h263_planes.specs.Blocks.{mb_of}
use Rattle.h263_planes.specs.Lent.{picture}
use Rattle.h263_planes.specs.Samples.{Inside, sample_at}
use Rattle.h263_planes.specs.Work.{work}
use Rattle.packet_collector.specs.Collected.{has_in}
use Rattle.receiver_end.proofs.Copies.{one_more}
use Rattle.receiver_end.proofs.patching.copy_all_missing.Goals as goal

pub loop-at-preserved : goal.loop-at-preserved
loop-at-preserved c =
    let so = c.loop-at.invariant in
    let copy = c.copy_missing in
    let same = c.header_of_copies-header.ensures.format in
    let taken = has_in c.args.collector.now c.args.number in (
      copy.ensures.same_loan ∙ so.0,
      copy.ensures.format ∙ same,
      copy.ensures.whole,
      λ plane x y inside.
          let now = sample_at (work copy.new.out) plane x y in
          let screen = sample_at (picture c.args.screen) plane x y in
          let was = sample_at (work c.loop-at.out) plane x y in
          one_more now screen was (sample_at (work c.args.out.now) plane x y) taken (mb_of c.args.format plane x y)
          c.loop-at.at
          (subst (λ (f : Format). Inside f plane x y 1
          → now ≡ cond (nat_eq (mb_of f plane x y) c.loop-at.at && not (taken c.loop-at.at)) screen was)
          same (copy.ensures.samples plane x y) inside)
          (so.3 plane x y inside),
    )
