use Rattle.rate_control.proofs.Levels.{quant_no_less}
use Rattle.rate_control.proofs.laws.monotone.Goals as goal

pub returns : goal.returns
returns c = quant_no_less
