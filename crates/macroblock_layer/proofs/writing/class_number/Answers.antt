use Rattle.std.proofs.Common.{◌++◌, Bool, List, ap, ◌∙◌}
use Rattle.h263_bits.specs.Bits.{spelled}
use Rattle.macroblock_layer.specs.Written.{class_text}
use Rattle.macroblock_layer.proofs.writing.class_number.Goals as goal

pub returns-in-P-clause-text : goal.returns-in-P-clause-text
unfolding spelled class_text
returns-in-P-clause-text c = rw c.in-P.is (c.joined.ensures.text
    ∙ ap (λ (t : List Bool). spelled 1 0 ++ t) (rw c.in-P.is at c.mcbpc_number-word.ensures.text))
