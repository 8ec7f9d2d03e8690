use Rattle.duplex_ends.proofs.Pairs.{exchanged, first_pair, played_so, sent_so}
use Rattle.duplex_ends.proofs.laws.pair_laws.Goals as goal

pub returns : goal.returns
returns c = λ p. record {
  first = λ x own far in_range clock one two. first_pair p x own far (λ y. c.way_laws.ensures (p y)) in_range clock one
      two;
  exchanged = λ x own far ways h. exchanged p x own far ways h;
  sent = λ x own far ways h. sent_so p x own far ways h (c.way_laws.ensures (p x)) (c.ends_agree.ensures (p x));
  played = λ x own far ways h. played_so p x own far ways h (c.way_laws.ensures (p x)) (c.ends_agree.ensures (p x));
}
