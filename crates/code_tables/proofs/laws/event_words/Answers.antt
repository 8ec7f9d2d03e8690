use Rattle.std.proofs.Common.{refl}
use Rattle.code_tables.specs.Tables.{words_of_length, tcoef_words, last_0_texts, last_1_texts}
use Rattle.code_tables.proofs.laws.event_words.Goals as goal

pub returns-clause-lengths : goal.returns-clause-lengths
unfolding words_of_length tcoef_words last_0_texts last_1_texts
returns-clause-lengths c = refl

pub returns-clause-all : goal.returns-clause-all
unfolding tcoef_words last_0_texts last_1_texts
returns-clause-all c = refl
