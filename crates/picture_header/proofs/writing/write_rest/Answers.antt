use Rattle.picture_header.specs.Ranges.{messages_in}
use Rattle.picture_header.proofs.Texts.{ten_bits, all_wide}
use Rattle.picture_header.proofs.writing.write_rest.Goals as goal

pub write_reference-requires-clause-trp : goal.write_reference-requires-clause-trp
write_reference-requires-clause-trp c = let h = c.args.header.now in ten_bits h.clock h.kind h.trp c.requires.header.trp

pub write_back-requires-clause-each : goal.write_back-requires-clause-each
write_back-requires-clause-each c = let h = c.args.header.now in
    all_wide c.in_a_syntax.ensures h.clock (messages_in h.back) c.requires.header.back.each
