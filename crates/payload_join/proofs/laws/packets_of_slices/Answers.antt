use Rattle.payload_join.proofs.SlicesOut.{of_slices}
use Rattle.payload_join.proofs.laws.packets_of_slices.Goals as goal

pub returns : goal.returns
returns c = of_slices (record {
  headers = c.in_a_syntax.ensures;
  rtp_read = c.exact_text.ensures.read;
  rtp_again = c.read_again.ensures;
})
