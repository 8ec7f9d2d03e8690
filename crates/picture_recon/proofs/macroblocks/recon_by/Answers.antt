use Rattle.std.proofs.Common.{ap, subst, Option}
use Rattle.h263_types.specs.declared.format.Format.{Format}
use Rattle.std.specs.Option.{option_map}
use Rattle.h263_planes.specs.declared.lent.PictureRef.{PictureRef}
use Rattle.h263_planes.specs.Lent.{picture}
use Rattle.h263_planes.specs.Work.{work}
use Rattle.picture_recon.proofs.Drawn.{SetsPredicted, same_drawn, reference_drawn, reference_format}
use Rattle.picture_recon.proofs.macroblocks.recon_by.Goals as goal

pub returns-in-Intra-clause-samples : goal.returns-in-Intra-clause-samples
returns-in-Intra-clause-samples c =
    let header = c.args.header.now in
    let reference = option_map picture c.args.reference in
    same_drawn header.format header.rounding c.args.at c.args.mb.now _ reference (work c.args.out.now)
    (work c.put_intra.new.out) c.in-Intra.is
    (c.put_intra.ensures.samples header.rounding reference)

pub returns-in-Some-reference-clause-samples : goal.returns-in-Some-reference-clause-samples
returns-in-Some-reference-clause-samples c =
    let header = c.args.header.now in
    let p = picture c.in-Some-reference.picture in
    let seen = ap (λ (o : Option PictureRef). option_map picture o) c.in-Some-reference.is in
    let same = reference_format header.kind header.format _ _ _ c.args.mb.now (option_map picture c.args.reference) p
    c.in-Inter.is seen c.requires.reference c.requires.of_kind in
    reference_drawn header.format header.rounding c.args.at c.args.mb.now _ (option_map picture c.args.reference) p _
    _ c.in-Inter.is seen
    (subst (λ (f : Format). SetsPredicted f c.args.at c.in-Inter.quant c.in-Inter.blocks c.predict_into.new.out
    (work c.args.out.now) (work c.put_inter.new.out)) c.requires.format c.put_inter.ensures.samples p c.in-Inter.vector
    header.rounding same c.predict_into.ensures)
