use Rattle.rate_control.proofs.Levels.{bounds, reached}
use Rattle.rate_control.proofs.laws.level.Goals as goal

pub returns : goal.returns
returns c = λ target sizes. (bounds target sizes, reached target sizes)
