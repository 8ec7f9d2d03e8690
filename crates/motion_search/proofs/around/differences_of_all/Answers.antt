use Rattle.std.proofs.Common.{◌∙◌, arith}
use Rattle.motion_search.specs.Rows.{rows_from}
use Rattle.motion_search.proofs.Blocks.{no_rows_of_two, quarters_add}
use Rattle.motion_search.proofs.Pairs.{rows_from_first}
use Rattle.motion_search.proofs.around.differences_of_all.Goals as goal

pub returns-clause-value : goal.returns-clause-value
returns-clause-value c =
    let block = c.args.block.now in
    let samples = c.args.samples.now in
    quarters_add (rows_from block samples) c.four_rows_of.result c.four_rows_of-2.result c.four_rows_of-3.result
    c.four_rows_of-4.result
    (no_rows_of_two block samples 16 c.told-block (omega arith))
    c.four_rows_of.ensures.value c.four_rows_of-2.ensures.value c.four_rows_of-3.ensures.value
    c.four_rows_of-4.ensures.value
    ∙ rows_from_first block samples
