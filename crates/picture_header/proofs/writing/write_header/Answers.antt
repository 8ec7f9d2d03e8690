use Rattle.picture_header.proofs.Texts.{header_spelt}
use Rattle.picture_header.proofs.writing.write_header.Goals as goal

pub returns-clause-spells : goal.returns-clause-spells
returns-clause-spells c = header_spelt c.in_a_syntax.ensures c.args.header.now c.requires.header
