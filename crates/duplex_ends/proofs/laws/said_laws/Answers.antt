use Rattle.duplex_ends.proofs.Said.{reads_last, told_fit}
use Rattle.duplex_ends.proofs.laws.said_laws.Goals as goal

pub returns : goal.returns
returns c = λ p in_range.
    let lawful = c.is_coding.ensures p in_range in
    record {
      fit = λ w. told_fit p lawful c.said_bytes.ensures.marked_again c.exact_text.ensures.read w;
      read = λ w notes note is. reads_last p lawful c.said_bytes.ensures.marked_again c.exact_text.ensures.read w notes
          note is;
    }
