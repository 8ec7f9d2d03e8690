use Rattle.stream_choice.proofs.Grants.{never_more}
use Rattle.stream_choice.proofs.laws.never_more.Goals as goal

pub returns : goal.returns
returns c = never_more
