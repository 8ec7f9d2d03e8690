use Rattle.std.proofs.Common.{◌∙◌, sym}
use Rattle.h263_planes.specs.Lent.{picture}
use Rattle.mode_choice.specs.Choice.{residual_blocks_of}
use Rattle.mode_choice.proofs.Searched.{by_best, of_inter}
use Rattle.mode_choice.proofs.macroblock.macroblock_in_p.Goals as goal

pub returns-clause-choice : goal.returns-clause-choice
returns-clause-choice c =
    let p = picture c.args.frame in
    let q = picture c.args.reference in
    let h = c.args.header.now in
    let search = c.search_from-cost in
    by_best p q h c.args.params.now c.args.mb _ _ _ search.ensures.range search.ensures.vector search.ensures.cost
    (sym c.is_nearer_to_mean.ensures ∙ c.if-is_nearer_to_mean.false)
    (c.inter_macroblock.ensures.choice q h.rounding c.predict_into.ensures)

pub returns-clause-predicted : goal.returns-clause-predicted
returns-clause-predicted c =
    let p = picture c.args.frame in
    let q = picture c.args.reference in
    let h = c.args.header.now in
    of_inter h.rounding c.args.mb h.quant q _ (residual_blocks_of p q h.quant c.args.params.now.keep h.rounding
    c.args.mb _) _ _ (c.inter_macroblock.ensures.choice q h.rounding c.predict_into.ensures) c.predict_into.ensures
