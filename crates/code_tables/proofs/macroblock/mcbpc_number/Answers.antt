use Rattle.std.proofs.Common.{◌≡◌, ◌∙◌}
use Rattle.h263_types.specs.declared.Kind.TheVariants as kinds
use Rattle.code_tables.specs.declared.tables.TheConstants.{INTER_MCBPC, INTRA_MCBPC}
use Rattle.code_tables.specs.Words.{code_at, word_of}
use Rattle.code_tables.specs.Mcbpc.{mcbpc_text}
use Rattle.code_tables.proofs.Texts.{inter_text, intra_text}
use Rattle.code_tables.proofs.macroblock.mcbpc_number.Goals as goal

pub returns-in-I-clause-text : goal.returns-in-I-clause-text
returns-in-I-clause-text c =
    let same : word_of (code_at INTRA_MCBPC c.intra_place.result) ≡ mcbpc_text kinds.I c.args.word.now =
    rw c.intra_place.ensures (intra_text c.args.word.now (rw c.in-I.is at c.requires)) in
    rw c.in-I.is (c.code_number.ensures.text ∙ same)

pub returns-in-P-clause-text : goal.returns-in-P-clause-text
returns-in-P-clause-text c =
    let same : word_of (code_at INTER_MCBPC c.inter_place.result) ≡ mcbpc_text kinds.P c.args.word.now =
    rw c.inter_place.ensures (inter_text c.args.word.now (rw c.in-P.is at c.requires)) in
    rw c.in-P.is (c.code_number-in-P.ensures.text ∙ same)
