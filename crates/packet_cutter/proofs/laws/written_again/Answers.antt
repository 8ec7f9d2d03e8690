use Rattle.packet_cutter.proofs.Reread.{read_as}
use Rattle.packet_cutter.proofs.laws.written_again.Goals as goal

pub returns : goal.returns
returns c = read_as (record {
  headers = c.in_a_syntax.ensures;
  rtp = c.read_again.ensures;
  picture = c.read_again-2.ensures.picture;
  slice = c.read_again-2.ensures.slice;
  many = c.read_again-2.ensures.many;
  slices = c.written_is_text.ensures;
})
