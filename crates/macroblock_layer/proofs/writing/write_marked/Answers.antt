use Rattle.std.proofs.Common.{sym, subst}
use Rattle.h263_bits.specs.Bits.{spelled}
use Rattle.h263_bits.specs.Written.{Appends}
use Rattle.h263_types.specs.declared.blocks.Mb.{Mb}
use Rattle.macroblock_layer.specs.Written.{mb_text}
use Rattle.macroblock_layer.proofs.writing.write_marked.Goals as goal

pub returns-in-Skip-clause-bits : goal.returns-in-Skip-clause-bits
unfolding spelled
returns-in-Skip-clause-bits c =
    let a = c.args in
    subst (λ (m : Mb). Appends a.writer.now c.put.new.self (mb_text a.kind a.quant a.predictor m))
    (sym c.in-Skip.is) c.put.ensures.bits

pub returns-in-Skip-clause-spells : goal.returns-in-Skip-clause-spells
returns-in-Skip-clause-spells c = λ reach within.
    let a = c.args in
    c.in_a_syntax.ensures.spelt a.kind a.quant reach a.predictor a.mb.now.mb c.requires.mb c.requires.kind
    c.requires.step c.is_whole.ensures.whole within

pub returns-in-Intra-clause-short : goal.returns-in-Intra-clause-short
returns-in-Intra-clause-short c =
    let a = c.args in
    c.in_a_syntax.ensures.short a.kind a.quant a.predictor a.mb.now.mb c.is_whole.ensures.whole

pub returns-in-Intra-clause-spells : goal.returns-in-Intra-clause-spells
returns-in-Intra-clause-spells c = λ reach within.
    let a = c.args in
    c.in_a_syntax.ensures.spelt a.kind a.quant reach a.predictor a.mb.now.mb c.requires.mb c.requires.kind
    c.requires.step c.is_whole.ensures.whole within

pub returns-in-Inter-clause-short : goal.returns-in-Inter-clause-short
returns-in-Inter-clause-short c =
    let a = c.args in
    c.in_a_syntax.ensures.short a.kind a.quant a.predictor a.mb.now.mb c.is_whole.ensures.whole

pub returns-in-Inter-clause-spells : goal.returns-in-Inter-clause-spells
returns-in-Inter-clause-spells c = λ reach within.
    let a = c.args in
    c.in_a_syntax.ensures.spelt a.kind a.quant reach a.predictor a.mb.now.mb c.requires.mb c.requires.kind
    c.requires.step c.is_whole.ensures.whole within
