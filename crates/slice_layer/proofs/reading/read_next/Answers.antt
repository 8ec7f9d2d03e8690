use Rattle.slice_layer.proofs.Ranges.{next_in_i}
use Rattle.slice_layer.proofs.reading.read_next.Goals as goal

pub returns-in-I-clause-reads : goal.returns-in-I-clause-reads
returns-in-I-clause-reads c = rw c.in-I.is (c.read_mb_in_i.ensures.exact _ _)

pub returns-in-I-clause-range : goal.returns-in-I-clause-range
returns-in-I-clause-range c = next_in_i c.read_mb_in_i.result c.args.header.now c.args.next.at c.read_mb_in_i.new.out
    c.in-I.is (c.read_mb_in_i.ensures.range c.requires.quant)
