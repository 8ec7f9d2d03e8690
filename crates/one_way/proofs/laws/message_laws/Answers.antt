use Rattle.one_way.proofs.laws.message_laws.Goals as goal

pub returns : goal.returns
returns c = λ p. record {
  said = c.said_bytes.ensures.written;
  count = λ number sequence h slices. c.written_packets.ensures.count p number sequence h slices;
}
