use Rattle.quantiser.proofs.Values.{kept_level}
use Rattle.quantiser.proofs.Words.{coefficient_kept, limited_inter, word_kept}
use Rattle.quantiser.proofs.coefficients.level_inter.Goals as goal

pub returns-clause-level : goal.returns-clause-level
returns-clause-level c =
    cc (
      kept_level c.level_inter_by_factor.result c.level_inter_by_factor.ensures.range,
      c.level_inter_by_factor.ensures.level,
      word_kept c.limited.result c.limited.ensures.range,
      c.limited.ensures.value,
      coefficient_kept c.args.coefficient c.requires.coefficient,
      limited_inter c.args.quant c.args.coefficient c.requires.quant,
    )
