use Rattle.quantiser.proofs.Words.{limited_inter, limited_intra}
use Rattle.quantiser.proofs.laws.limited_coefficients.Goals as goal

pub returns : goal.returns
returns c q z h = (limited_inter q z h, limited_intra q z h)
