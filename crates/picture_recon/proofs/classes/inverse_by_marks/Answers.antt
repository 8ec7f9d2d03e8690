use Rattle.picture_recon.proofs.Clear.{row_alone, column_alone, two_rows, four_rows}
use Rattle.picture_recon.proofs.classes.inverse_by_marks.Goals as goal

pub inverse_of_row-requires-clause-zeros : goal.inverse_of_row-requires-clause-zeros
inverse_of_row-requires-clause-zeros c = row_alone c.args.marks c.args.values.now c.requires.marked
    (c.are_clear.ensures c.if-are_clear.true)

pub inverse_of_column-requires-clause-zeros : goal.inverse_of_column-requires-clause-zeros
inverse_of_column-requires-clause-zeros c = column_alone c.args.marks c.args.values.now c.requires.marked
    (c.are_clear-else-are_clear.ensures c.if-are_clear-2.true)

pub inverse_by_rows-requires-clause-zeros : goal.inverse_by_rows-requires-clause-zeros
inverse_by_rows-requires-clause-zeros c = two_rows c.args.marks c.args.values.now c.requires.marked
    (c.are_clear-else-are_clear-2.ensures c.if-are_clear-3.true)

pub inverse_by_rows-requires-then-are_clear-4-clause-zeros : goal.inverse_by_rows-requires-then-are_clear-4-clause-zeros
inverse_by_rows-requires-then-are_clear-4-clause-zeros c = four_rows c.args.marks c.args.values.now c.requires.marked
    (c.are_clear-else-are_clear-3.ensures c.if-are_clear-4.true)
