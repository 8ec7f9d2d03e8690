use Rattle.h263rps_c.proofs.Starts.{at_place}
use Rattle.h263rps_c.proofs.start.Start.of.Goals as goal

pub said_at-requires-4 : goal.said_at-requires-4
said_at-requires-4 c =
    let header = c.args.header.now in
    at_place c.in_a_syntax.ensures header.clock header.back c.requires.back.each 3
