use Rattle.std.proofs.Common.{◌∙◌}
use Rattle.code_tables.proofs.RowPlaces.{place_of_0, place_of_1}
use Rattle.code_tables.proofs.words.triple_place.Goals as goal

pub returns-then-last : goal.returns-then-last
returns-then-last c = rw c.if-last.true (c.row_place.ensures
    ∙ place_of_1 c.args.run c.args.size c.requires.run c.requires.size)

pub returns-else-last : goal.returns-else-last
returns-else-last c = rw c.if-last.false (c.row_place-else-last.ensures
    ∙ place_of_0 c.args.run c.args.size c.requires.run c.requires.size)
