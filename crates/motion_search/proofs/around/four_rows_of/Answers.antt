use Rattle.std.proofs.Common.{arith, ◌+◌, ◌<◌, ℕ}
use Rattle.motion_search.specs.Rows.{rows_from}
use Rattle.motion_search.proofs.Blocks.{four_apart}
use Rattle.motion_search.proofs.Pairs.{stored_row_cut}
use Rattle.motion_search.proofs.around.four_rows_of.Goals as goal

pub returns-clause-value : goal.returns-clause-value
returns-clause-value c =
    let block = c.args.block.now in
    let samples = c.args.samples.now in
    let j = c.args.j in
    let row = λ (k : ℕ) (hk : k < 16). stored_row_cut block samples k c.parts_add.ensures hk c.told-block
    c.requires.samples in
    cc (
      c.differences_of_four.ensures.value,
      c.stored_row-top.ensures.value,
      c.stored_row-second.ensures.value,
      c.stored_row-third.ensures.value,
      c.stored_row-fourth.ensures.value,
      four_apart (rows_from block samples) j _ _ _ _ (row j (omega arith)) (row (j + 4) (omega arith))
          (row (j + 8) (omega arith)) (row (j + 12) (omega arith)),
    )
