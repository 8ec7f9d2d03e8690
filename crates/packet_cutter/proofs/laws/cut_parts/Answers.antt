use Rattle.packet_cutter.proofs.Cuts.{covers, fit}
use Rattle.packet_cutter.proofs.Counted.{count, within}
use Rattle.packet_cutter.proofs.laws.cut_parts.Goals as goal

pub returns : goal.returns
returns c = record { covers = covers; each = fit; count = count; packets = within }
