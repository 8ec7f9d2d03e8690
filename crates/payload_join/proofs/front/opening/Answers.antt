use Rattle.payload_join.proofs.Fronts.{opening_is}
use Rattle.payload_join.proofs.front.opening.Goals as goal

pub returns : goal.returns
returns c = rw (c.write_u16.ensures) (opening_is c.args.plen c.args.pebit c.requires.few c.requires.pebit)
