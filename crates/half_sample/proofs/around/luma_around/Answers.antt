use Rattle.h263_planes.specs.Lent.{picture}
use Rattle.half_sample.proofs.Neighbours.{all_around, all_inside}
use Rattle.half_sample.proofs.around.luma_around.Goals as goal

pub rows_rounded-requires-clause-place : goal.rows_rounded-requires-clause-place
rows_rounded-requires-clause-place c =
    record {
      inside = all_inside (picture c.args.reference).format c.args.mb c.args.vector c.place_of-place.result
          c.requires.between c.requires.beyond c.place_of-place.ensures.leads;
      x = c.place_of-place.ensures.x;
      y = c.place_of-place.ensures.y;
    }

pub returns : goal.returns
returns c =
    all_around (picture c.args.reference) c.args.rounding c.args.mb c.args.vector c.place_of-place.result
    _ c.requires.between c.place_of-place.ensures.leads c.rows_rounded.ensures
