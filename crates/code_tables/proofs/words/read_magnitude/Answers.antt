use Rattle.std.proofs.Common.{refl}
use Rattle.h263_bits.specs.Bits.{spelled}
use Rattle.h263_bits.specs.Syntax.{begins, is_prefix_free}
use Rattle.code_tables.specs.Words.{listed}
use Rattle.code_tables.specs.Tables.{magnitude_texts, magnitude_words, magnitude_table}
use Rattle.code_tables.proofs.words.read_magnitude.Goals as goal

pub read_code-requires-clause-apart : goal.read_code-requires-clause-apart
unfolding begins is_prefix_free listed spelled
read_code-requires-clause-apart c = refl

pub returns-clause-reads : goal.returns-clause-reads
unfolding magnitude_table magnitude_words magnitude_texts listed spelled
returns-clause-reads c = c.read_code.ensures.reads
