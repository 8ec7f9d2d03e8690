use Rattle.std.proofs.Common.{◌∙◌, ap}
use Rattle.quantiser.specs.Zigzag.{block_place_of}
use Rattle.mode_choice.specs.Walk.{kept_level}
use Rattle.mode_choice.proofs.Walk.{block_place_below}
use Rattle.mode_choice.proofs.coefficients.levels_in.Goals as goal

pub returns-clause-levels : goal.returns-clause-levels
returns-clause-levels c k h =
    c.put_in_order.ensures.levels k h
    ∙ ap (kept_level c.args.quantisation.keep k) (c.levels_by_rows-by_rows.ensures.levels (block_place_of k)
    (block_place_below k))
