use Rattle.stream_choice.proofs.Ending.{ends_life}
use Rattle.stream_choice.proofs.laws.ends_life.Goals as goal

pub returns : goal.returns
returns c = ends_life
