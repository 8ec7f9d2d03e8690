use Rattle.h263_payload.proofs.Written.{picture_again, slice_again, length-written_payload}
use Rattle.h263_payload.proofs.laws.read_again.Goals as goal

pub returns : goal.returns
returns c = record {
  picture = picture_again c.in_a_syntax.ensures;
  slice = slice_again c.in_a_syntax.ensures;
  many = length-written_payload c.in_a_syntax.ensures;
}
