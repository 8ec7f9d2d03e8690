use Rattle.packet_cutter.proofs.Cuts.{one_cut}
use Rattle.packet_cutter.proofs.laws.one_cut.Goals as goal

pub returns : goal.returns
returns c = one_cut
