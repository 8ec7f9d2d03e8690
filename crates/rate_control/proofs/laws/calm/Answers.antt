use Rattle.rate_control.proofs.Levels.{calm_level, level_calm}
use Rattle.rate_control.proofs.laws.calm.Goals as goal

pub returns : goal.returns
returns c = λ target sizes. (calm_level target sizes, level_calm target sizes)
