use Rattle.coded_call.proofs.Again.{packet_again}
use Rattle.coded_call.proofs.laws.packet_again.Goals as goal

pub returns : goal.returns
returns c = packet_again (record {
  bits = c.packet_is_text.ensures.bits;
  bytes = c.packet_is_text.ensures.bytes;
  written = c.written_again.ensures;
  spelled = λ format s bytes is. (c.exact_text.ensures.read format s bytes).1 is;
  rtp = c.exact_text-2.ensures.read;
  payload = c.exact_text-3.ensures.read;
})
