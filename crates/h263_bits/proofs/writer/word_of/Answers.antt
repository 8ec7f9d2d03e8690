use Rattle.std.proofs.Common.{arith}
use Rattle.h263_bits.proofs.WriterWords.{word_is}
use Rattle.h263_bits.proofs.writer.word_of.Goals as goal

pub returns : goal.returns
returns c = word_is c.args.old c.args.used c.args.value c.args.n (omega (arith, c.ranges.old)) c.requires.used
    c.requires.few c.requires.fits
