use Rattle.std.proofs.Common.{◌+◌, ap, sym, ◌∙◌}
use Rattle.h263_types.specs.Blocks.{level_at}
use Rattle.picture_recon.specs.Samples.{block_in, intra_values, limited}
use Rattle.picture_recon.proofs.Flat.{first_value, other_values}
use Rattle.picture_recon.proofs.values.two_intra.Goals as goal

pub returns-clause-one : goal.returns-clause-one
returns-clause-one c = λ y x hy hx.
    let quant = c.args.quant in
    let block = block_in c.args.blocks.now c.args.first in
    let put = c.put_values_but_first.ensures in
    c.intra_samples-one.ensures y x hy hx
    ∙ ap limited (sym (c.first_value_apart.ensures (intra_values quant block) c.put_values_but_first.new.values
    (level_at block 0)
    (first_value quant block) put.first (λ at some less. other_values quant block at some less
    ∙ sym (put.values at some less)) y x hy hx))

pub returns-clause-next : goal.returns-clause-next
returns-clause-next c = λ y x hy hx.
    let quant = c.args.quant in
    let block = block_in c.args.blocks.now (c.args.first + 1) in
    let put = c.put_values_but_first-2.ensures in
    c.intra_samples-next.ensures y x hy hx
    ∙ ap limited (sym (c.first_value_apart.ensures (intra_values quant block) c.put_values_but_first-2.new.values
    (level_at block 0)
    (first_value quant block) put.first (λ at some less. other_values quant block at some less
    ∙ sym (put.values at some less)) y x hy hx))
