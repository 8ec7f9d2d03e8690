use Rattle.std.proofs.Common.{refl}
use Rattle.h263_bits.specs.Bits.{spelled}
use Rattle.h263_bits.specs.Syntax.{begins, is_prefix_free}
use Rattle.code_tables.specs.Words.{listed}
use Rattle.code_tables.specs.Tables.{cbpy_texts, cbpy_words}
use Rattle.code_tables.proofs.words.read_pattern.Goals as goal

pub read_code-requires-clause-apart : goal.read_code-requires-clause-apart
unfolding begins is_prefix_free listed spelled
read_code-requires-clause-apart c = refl

pub returns-clause-reads : goal.returns-clause-reads
unfolding cbpy_words cbpy_texts listed spelled
returns-clause-reads c = c.read_code.ensures.reads
