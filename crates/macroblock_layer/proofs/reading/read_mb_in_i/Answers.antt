use Rattle.std.proofs.Common.{Result, subst}
use Rattle.h263_types.specs.declared.blocks.Mb.{Mb}
use Rattle.h263_bits.specs.declared.fault.Fault.{Fault}
use Rattle.h263_bits.specs.Reading.{Bits, Gives}
use Rattle.macroblock_layer.proofs.InI.{same_in_i}
use Rattle.macroblock_layer.proofs.reading.read_mb_in_i.Goals as goal

pub returns-clause-exact : goal.returns-clause-exact
returns-clause-exact c = λ reach predictor.
    let old = c.args.reader.now in
    subst (λ (x : Result (Mb × Bits) Fault). Gives (λ _. c.read_mb.new.out) c.read_mb.result c.read_mb.new.reader x)
    (same_in_i c.args.quant _ reach _ predictor old) c.read_mb.ensures.exact
