use Rattle.std.proofs.Common.{arith}
use Rattle.picture_header.proofs.Texts.{length-written_header}
use Rattle.picture_header.proofs.writing.header_bits.Goals as goal

pub returns-clause-bits : goal.returns-clause-bits
returns-clause-bits c = omega (arith, length-written_header c.in_a_syntax.ensures c.args.header.now)
