use Rattle.std.proofs.Common.{◌∙◌}
use Rattle.call_command.specs.Counts.{counts_text_of}
use Rattle.duplex_command.proofs.show.party_line.Goals as goal

pub returns : goal.returns
returns c = λ p x far ways h.
    let own = c.args.ends.now in
    let word = c.args.word.now in
    let laws = c.pair_laws.ensures p in
    let sent = c.sent.ensures ∙ laws.sent x own far ways h in
    let played = c.played.ensures ∙ laws.played x own far ways h in
    let tally = c.tally.ensures p x far ways h in
    c.counts_line.ensures ∙ (λ i. counts_text_of word (played i) (sent i) (tally.exact i) (tally.patched i)
    (tally.held i))
