use Rattle.std.proofs.Common.{ℕ, ◌+◌, ◌*◌, get_or, ap, ◌∙◌, arith, true}
use Rattle.h263_planes.specs.Lent.{picture}
use Rattle.h263_planes.specs.Samples.{sample_at}
use Rattle.h263_planes.specs.declared.Plane.TheVariants.{Cb, Cr}
use Rattle.half_sample.specs.declared.source.Source.{Source}
use Rattle.half_sample.proofs.Sources.{between_is, first_lane, second_lane}
use Rattle.half_sample.proofs.block.colours_of.Goals as goal

pub returns-clause-cb : goal.returns-clause-cb
returns-clause-cb c = λ j i hj hi.
    let p = picture c.args.reference in
    let first = c.rows.result.now in
    let second = c.rows-2.result.now in
    let source : Source = record {
      rows = c.rows.result;
      others = c.rows-2.result;
      width = c.width.result;
      colours = true;
    } in
    c.colour_rows.ensures.cb j i hj hi
    ∙ between_is p Cb source c.args.half c.args.rounding c.args.place.x c.args.place.y 8
    (0 + i) i j first c.requires.rounding
    (λ at. first_lane at i first second hi)
    (λ k l hk hl.
    ap (λ (w : ℕ). get_or first (w * l + k) 0) c.width.ensures
    ∙ c.rows.ensures.samples k l (omega (arith, hk, c.one_if.ensures)) (omega (arith, hl, c.one_if-2.ensures))
    ∙ ap (λ (t : ℕ). sample_at p Cb (c.args.place.x + k) (t + l)) c.from-y.ensures)
    hi hj

pub returns-clause-cr : goal.returns-clause-cr
returns-clause-cr c = λ j i hj hi.
    let p = picture c.args.reference in
    let first = c.rows.result.now in
    let second = c.rows-2.result.now in
    let source : Source = record {
      rows = c.rows.result;
      others = c.rows-2.result;
      width = c.width.result;
      colours = true;
    } in
    c.colour_rows.ensures.cr j i hj hi
    ∙ between_is p Cr source c.args.half c.args.rounding c.args.place.x c.args.place.y 8
    (8 + i) i j second c.requires.rounding
    (λ at. second_lane at i first second hi)
    (λ k l hk hl.
    ap (λ (w : ℕ). get_or second (w * l + k) 0) c.width.ensures
    ∙ c.rows-2.ensures.samples k l (omega (arith, hk, c.one_if.ensures)) (omega (arith, hl, c.one_if-2.ensures))
    ∙ ap (λ (t : ℕ). sample_at p Cr (c.args.place.x + k) (t + l)) c.from-y.ensures)
    hi hj
