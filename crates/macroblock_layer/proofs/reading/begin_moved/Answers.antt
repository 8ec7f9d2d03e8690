use Rattle.macroblock_layer.proofs.reading.begin_moved.Goals as goal

pub returns : goal.returns
returns c = c.put_vector.ensures c.args.quant c.begin_inter.ensures
