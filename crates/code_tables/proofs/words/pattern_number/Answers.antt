use Rattle.std.proofs.Common.{◌∙◌}
use Rattle.code_tables.proofs.Texts.{pattern_text}
use Rattle.code_tables.proofs.words.pattern_number.Goals as goal

pub returns-clause-text : goal.returns-clause-text
returns-clause-text c = c.code_number.ensures.text ∙ pattern_text c.args.pattern c.requires.pattern
