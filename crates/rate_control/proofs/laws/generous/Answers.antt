use Rattle.rate_control.proofs.Levels.{quant_no_coarser}
use Rattle.rate_control.proofs.laws.generous.Goals as goal

pub returns : goal.returns
returns c = quant_no_coarser
