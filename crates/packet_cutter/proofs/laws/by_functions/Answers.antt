use Rattle.std.proofs.Common.{length, refl, arith}
use Rattle.packet_cutter.proofs.Cuts.{cut_exists}
use Rattle.packet_cutter.proofs.Sent.{cut_is, packets_of_cut, cut_of_packets}
use Rattle.packet_cutter.proofs.laws.by_functions.Goals as goal

pub returns-clause-cut : goal.returns-clause-cut
returns-clause-cut c = λ h limit mbs runs cut. cut_is c.searches.ensures.greatest (length mbs) h limit 0 mbs runs
    (omega arith) cut

pub returns-clause-packets : goal.returns-clause-packets
returns-clause-packets c = packets_of_cut c.searches.ensures.greatest

pub returns-clause-whole : goal.returns-clause-whole
returns-clause-whole c = λ number sequence h limit mbs is room whole.
    let cut = cut_exists c.longest_text-2.ensures c.longest_text.ensures h limit is room (length mbs) 0 mbs
    (omega arith) whole in
    cut_of_packets c.searches.ensures.greatest number sequence h limit mbs _ cut.0 cut.1 refl
