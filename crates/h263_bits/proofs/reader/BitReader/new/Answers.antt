use Rattle.std.proofs.Common.{arith}
use Rattle.h263_bits.specs.Bits.{bits_of}
use Rattle.h263_bits.proofs.BitLists.{length-window, length-bits_of}
use Rattle.h263_bits.proofs.reader.BitReader.new.Goals as goal

pub returns-clause-rest : goal.returns-clause-rest
returns-clause-rest c = omega (
  arith,
  length-bits_of c.args.bytes.now,
  length-window (bits_of c.args.bytes.now) c.args.from c.args.to c.requires.order
      (omega (arith, length-bits_of c.args.bytes.now)),
)
