use Rattle.std.proofs.Common.{length, arith}
use Rattle.packet_cutter.proofs.Cuts.{cut_exists}
use Rattle.packet_cutter.proofs.laws.cut_exists.Goals as goal

pub returns : goal.returns
returns c = λ h limit first mbs is room whole. cut_exists c.longest_text-2.ensures c.longest_text.ensures h limit is
    room (length mbs) first mbs (omega arith) whole
