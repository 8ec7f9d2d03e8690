use Rattle.coded_call.proofs.Again.{slice_again}
use Rattle.coded_call.proofs.laws.read_again.Goals as goal

pub returns : goal.returns
returns c = slice_again (record {
  again = c.packet_again.ensures;
  divides = c.cut_divides.ensures.divides;
  fits = c.cut_divides.ensures.fits;
  each = c.packet_of_each.ensures.each;
  reach = c.reaches.ensures;
})
