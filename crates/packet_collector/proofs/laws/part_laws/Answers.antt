use Rattle.packet_collector.proofs.laws.part_laws.Goals as goal

pub returns : goal.returns
returns c = record {
  headers = c.in_a_syntax.ensures;
  rtp_read = c.exact_text.ensures.read;
  rtp_written = c.exact_text.ensures.written;
  payload_read = c.exact_text-2.ensures.read;
  payload_written = c.exact_text-2.ensures.written;
  slices = c.exact_text-3.ensures.read;
}
