use Rattle.idct8.proofs.Zeros.{inverse_of_zeros}
use Rattle.idct8.proofs.laws.zeros_give_zeros.Goals as goal

pub returns : goal.returns
returns c = inverse_of_zeros
