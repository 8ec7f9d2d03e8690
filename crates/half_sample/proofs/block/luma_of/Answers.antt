use Rattle.std.proofs.Common.{ℕ, ◌+◌, ◌*◌, get_or, ap, ◌∙◌, arith, false}
use Rattle.h263_planes.specs.Lent.{picture}
use Rattle.h263_planes.specs.Samples.{sample_at}
use Rattle.h263_planes.specs.declared.Plane.TheVariants.{Y}
use Rattle.half_sample.specs.declared.source.Source.{Source}
use Rattle.half_sample.proofs.Sources.{between_is, only_lane}
use Rattle.half_sample.proofs.block.luma_of.Goals as goal

pub returns : goal.returns
returns c = λ j i hj hi.
    let p = picture c.args.reference in
    let rows = c.rows-rows.result.now in
    let source : Source = record {
      rows = c.rows-rows.result;
      others = c.rows-rows.result;
      width = c.width.result;
      colours = false;
    } in
    c.luma_rows.ensures j i hj hi
    ∙ between_is p Y source c.args.half c.args.rounding c.args.place.x c.args.place.y 16
    (0 + i) i j rows c.requires.rounding
    (λ at. only_lane at i rows)
    (λ k l hk hl.
    ap (λ (w : ℕ). get_or rows (w * l + k) 0) c.width.ensures
    ∙ c.rows-rows.ensures.samples k l (omega (arith, hk, c.one_if.ensures)) (omega (arith, hl, c.one_if-2.ensures))
    ∙ ap (λ (t : ℕ). sample_at p Y (c.args.place.x + k) (t + l)) c.from.ensures)
    hi hj
