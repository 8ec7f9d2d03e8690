use Rattle.std.proofs.Common.{◌≡◌, ◌<◌, ℕ, subst}
use Rattle.std.specs.Option.{option_map}
use Rattle.h263_types.specs.declared.blocks.Mb.{Mb}
use Rattle.h263_types.specs.declared.format.Format.{Format}
use Rattle.h263_types.specs.Marks.{HasMarks}
use Rattle.h263_planes.specs.Lent.{picture}
use Rattle.h263_planes.specs.Work.{work}
use Rattle.picture_recon.proofs.Drawn.{SetsPredicted, same_drawn, prediction_drawn}
use Rattle.picture_recon.proofs.Marked.{all_marked}
use Rattle.picture_recon.proofs.macroblocks.recon_predicted.Goals as goal

pub put_intra-requires-clause-marks : goal.put_intra-requires-clause-marks
put_intra-requires-clause-marks c = all_marked c.marks.ensures _ _
    (subst (λ (m : Mb). HasMarks m c.args.mb.now.coded) c.in-Intra.is c.requires.marks)

pub put_inter-requires-clause-marks : goal.put_inter-requires-clause-marks
put_inter-requires-clause-marks c = all_marked c.marks.ensures _ _
    (subst (λ (m : Mb). HasMarks m c.args.mb.now.coded) c.in-Inter.is c.requires.marks)

pub returns-in-Intra-clause-samples : goal.returns-in-Intra-clause-samples
returns-in-Intra-clause-samples c =
    let header = c.args.header.now in
    let reference = option_map picture c.args.reference in
    same_drawn header.format header.rounding c.args.at c.args.mb.now.mb _ reference (work c.args.out.now)
    (work c.put_intra.new.out) c.in-Intra.is
    (c.put_intra.ensures.samples header.rounding reference)

pub returns-in-Inter-clause-samples : goal.returns-in-Inter-clause-samples
returns-in-Inter-clause-samples c =
    let header = c.args.header.now in
    prediction_drawn header.kind header.format header.rounding c.args.at _ _ _ c.args.mb.now.mb
    (option_map picture c.args.reference) c.args.predicted.now _ _
    c.in-Inter.is c.requires.reference c.requires.of_kind c.requires.predicted
    (subst (λ (f : Format). SetsPredicted f c.args.at c.in-Inter.quant c.in-Inter.blocks c.args.predicted.now
    (work c.args.out.now) (work c.put_inter.new.out)) c.requires.format c.put_inter.ensures.samples)
