use Rattle.session_runs.proofs.Configs.{all_later}
use Rattle.session_runs.proofs.laws.kept_later.Goals as goal

pub returns : goal.returns
returns c = all_later
