use Rattle.packet_cutter.proofs.Parts.{other_parts}
use Rattle.packet_cutter.proofs.laws.other_parts.Goals as goal

pub returns : goal.returns
returns c = other_parts c.read_again.ensures.many c.longest_text-2.ensures c.longest_text.ensures
