use Rattle.std.proofs.Common.{ap, ◌∙◌, lit<}
use Rattle.h263_types.specs.Blocks.{level_at}
use Rattle.quantiser.specs.Levels.{value_of}
use Rattle.quantiser.specs.Zigzag.{zigzag_place_of}
use Rattle.picture_recon.specs.Samples.{inter_value, inter_values}
use Rattle.picture_recon.proofs.Steps.{first_put}
use Rattle.picture_recon.proofs.Kept.{kept, kept_level}
use Rattle.picture_recon.proofs.Clear.{other_put}
use Rattle.picture_recon.proofs.values.put_values.Goals as goal

pub returns-clause-values : goal.returns-clause-values
unfolding inter_values zigzag_place_of
returns-clause-values c =
    let block = c.args.block.now in
    first_put (inter_value c.args.quant block) c.put_values_but_first.new.values _ c.put_values_but_first.ensures.long
    (kept c.value.result c.value.ensures.range ∙ c.value.ensures.value
    ∙ ap (value_of c.args.quant) (kept_level (level_at block 0) (c.requires.block.levels 0 (lit< tt))))
    c.put_values_but_first.ensures.values

pub returns-clause-marked : goal.returns-clause-marked
returns-clause-marked c = λ at some less none. other_put c.put_values_but_first.new.values _ at some
    ∙ c.put_values_but_first.ensures.marked at some less none
