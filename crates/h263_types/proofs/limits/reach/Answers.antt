use Rattle.std.proofs.Common.{rules, w8}
use Rattle.std.proofs.lemmas.Int.{to_z-of_z}
use mir.Val.{SFits}
use Rattle.h263_types.proofs.Reaching.{both_components}
use Rattle.h263_types.proofs.limits.reach.Goals as goal

pub returns : goal.returns
returns c x y =
    let left : SFits w8 c.component_span-across.result.least = search rules in
    let right : SFits w8 c.component_span-across.result.most = search rules in
    let up : SFits w8 c.component_span-along.result.least = search rules in
    let down : SFits w8 c.component_span-along.result.most = search rules in
    rw (to_z-of_z w8 _ left, to_z-of_z w8 _ right, to_z-of_z w8 _ up, to_z-of_z w8 _ down)
    (both_components c.args.format c.args.mb _ _ _ _ _ _ x y c.columns-columns.ensures c.rows.ensures
    (c.component_span-across.ensures x) (c.component_span-along.ensures y))
