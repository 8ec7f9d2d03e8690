use Rattle.std.proofs.Common.{◌∙◌, ap}
use Rattle.h263_planes.specs.Given.{picture_with}
use Rattle.h263_planes.specs.Work.{work}
use Rattle.h263_types.specs.declared.format.Format.{Format}
use Rattle.make_input.specs.Frames.{made_sample}
use Rattle.make_input.proofs.Planes.{three_planes}
use Rattle.make_input.proofs.frames.frame.Goals as goal

pub returns-clause-picture : goal.returns-clause-picture
returns-clause-picture c =
    let made = made_sample c.args.seed c.args.number in
    let luma = c.put_plane.ensures in
    let cb = c.put_plane-2.ensures in
    let cr = c.put_plane-3.ensures in
    c.samples_are_picture.ensures.only (work c.put_plane-3.new.out) made cr.whole.whole
    (three_planes made (work c.args.out.now) (work c.put_plane.new.out) (work c.put_plane-2.new.out)
    (work c.put_plane-3.new.out) luma.format cb.format cr.format
    luma.made cb.made cr.made cb.others cr.others)
    ∙ ap (λ (f : Format). picture_with f made) (cr.format ∙ cb.format ∙ luma.format ∙ c.requires)
