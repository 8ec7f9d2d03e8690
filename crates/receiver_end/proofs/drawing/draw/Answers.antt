use Rattle.std.proofs.Common.{◌≡◌, ◌∙◌, ℕ, Option, Some, None, ap, sym}
use Rattle.h263_types.specs.declared.format.Format.{Format}
use Rattle.h263_planes.specs.Layout.{picture_of}
use Rattle.h263_planes.specs.Lent.{picture}
use Rattle.h263_planes.specs.Picture.{Picture}
use Rattle.receiver_end.specs.Steps.{picture_of_reference}
use Rattle.receiver_end.proofs.Works.{sets_kept}
use Rattle.receiver_end.proofs.drawing.draw.Goals as goal

pub returns-in-Some-clause-sets : goal.returns-in-Some-clause-sets
returns-in-Some-clause-sets c =
    let store = c.args.store.now in
    let kept : Some (picture c.new-reference.result) ≡ picture_of_reference store c.args.reference =
    ap (λ (p : Picture). Some p) (c.new-reference.ensures.picture
    ∙ ap (λ (f : Format). picture_of f c.pair-work.result.0.now) c.requires.format ∙ c.pair-work.ensures.reference)
    ∙ ap (λ (r : Option ℕ). picture_of_reference store r) (sym c.in-Some.is) in
    sets_kept c.args.format store c.set_slice.new.bytes c.args.w c.requires.format c.requires.inside
    c.set_slice.ensures.size
    c.args.mbs.now c.args.piece.now (Some (picture c.new-reference.result))
    (picture_of_reference store c.args.reference) c.pair-work.result.1.now kept c.pair-work.ensures.work
    c.set_slice.ensures.sets

pub returns-in-None-clause-sets : goal.returns-in-None-clause-sets
returns-in-None-clause-sets c =
    let store = c.args.store.now in
    sets_kept c.args.format store c.set_slice-in-None.new.bytes c.args.w c.requires.format c.requires.inside
    c.set_slice-in-None.ensures.size
    c.args.mbs.now c.args.piece.now (picture_of_reference store None) (picture_of_reference store c.args.reference)
    c.work.result.now (ap (λ (r : Option ℕ). picture_of_reference store r) (sym c.in-None.is))
    c.work.ensures.picture c.set_slice-in-None.ensures.sets
