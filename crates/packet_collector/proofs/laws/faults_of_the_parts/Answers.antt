use Rattle.packet_collector.proofs.laws.faults_of_the_parts.Goals as goal

pub returns : goal.returns
returns c = record {
  rtp = c.first_faults.ensures;
  payload = c.first_faults-2.ensures.whole;
  headers = c.first_faults-3.ensures.first;
  slices = c.first_faults-4.ensures.whole;
}
