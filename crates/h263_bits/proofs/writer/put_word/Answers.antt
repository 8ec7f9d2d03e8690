use Rattle.std.proofs.Common.{◌∙◌}
use Rattle.h263_bits.proofs.WriterWords.{word_takes}
use Rattle.h263_bits.proofs.writer.put_word.Goals as goal

pub returns : goal.returns
returns c = word_takes c.args.bytes.now c.copy_from_slice.new.self c.args.at c.args.n c.args.value c.word_of-word.result
    (c.copy_from_slice.ensures.after ∙ c.to_be_bytes.ensures) c.requires.room c.requires.few c.word_of-word.ensures
