use Rattle.h263_bits.proofs.SyntaxLaws.{complete}
use Rattle.picture_header.specs.Text.{header}
use Rattle.picture_header.specs.Written.{written_header}
use Rattle.picture_header.proofs.Loops.{header_productive}
use Rattle.picture_header.proofs.Texts.{header_spelt}
use Rattle.picture_header.proofs.laws.read_again.Goals as goal

pub returns : goal.returns
returns c = λ h at rest ok. complete (header h.format) h (written_header h) rest at
    (header_productive c.in_a_syntax.ensures h.format) (header_spelt c.in_a_syntax.ensures h ok)
