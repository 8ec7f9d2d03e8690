use Rattle.picture_header.proofs.Loops.{header_productive}
use Rattle.picture_header.proofs.Texts.{header_spelt, length-written_header, header_short}
use Rattle.picture_header.proofs.laws.in_a_syntax.Goals as goal

pub returns : goal.returns
returns c =
    let messages = c.in_a_syntax.ensures in
    record {
      productive = header_productive messages;
      spelt = header_spelt messages;
      length = length-written_header messages;
      short = header_short;
    }
