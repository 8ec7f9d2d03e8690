use Rattle.slice_layer.proofs.Openings.{opening_short}
use Rattle.slice_layer.proofs.writing_head.write_opening.Goals as goal

pub returns-then-begins-clause-few : goal.returns-then-begins-clause-few
returns-then-begins-clause-few c = opening_short c.in_a_syntax.ensures c.args.header.now c.args.begins c.args.first
    c.requires.header

pub returns-else-begins-clause-few : goal.returns-else-begins-clause-few
returns-else-begins-clause-few c = opening_short c.in_a_syntax.ensures c.args.header.now c.args.begins c.args.first
    c.requires.header
