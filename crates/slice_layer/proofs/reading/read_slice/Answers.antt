use Rattle.std.proofs.Common.{◌∙◌, rules}
use Rattle.slice_layer.specs.Text.{slice_at}
use Rattle.slice_layer.proofs.Bodies.{fills_texts, texts_fill}
use Rattle.slice_layer.proofs.reading.read_slice.Goals as goal

pub returns-in_err-first-clause-exact : goal.returns-in_err-first-clause-exact
unfolding slice_at
returns-in_err-first-clause-exact c = search rules

pub returns-in_err-first-clause-range : goal.returns-in_err-first-clause-range
returns-in_err-first-clause-range c = search rules

pub returns-in_err-first-clause-only : goal.returns-in_err-first-clause-only
returns-in_err-first-clause-only c = texts_fill c.in_a_syntax.ensures c.from_residual.result c.args.out.now
    c.args.header.now c.args.begins c.args.reader.now (returns-in_err-first-clause-range c) c.requires.picture
    (returns-in_err-first-clause-exact c)

pub returns-clause-exact : goal.returns-clause-exact
unfolding slice_at
returns-clause-exact c = search rules

pub returns-clause-found : goal.returns-clause-found
returns-clause-found c = fills_texts c.read_body.result c.read_body.new.out c.args.header.now c.args.begins
    c.args.reader.now (returns-clause-exact c)

pub returns-clause-only : goal.returns-clause-only
returns-clause-only c = texts_fill c.in_a_syntax.ensures c.read_body.result c.read_body.new.out c.args.header.now
    c.args.begins c.args.reader.now c.read_body.ensures.range (c.read_body.ensures.size
    ∙ c.requires.picture) (returns-clause-exact c)
