use Rattle.stream_choice.proofs.Beside.{undisturbed}
use Rattle.stream_choice.proofs.laws.undisturbed.Goals as goal

pub returns : goal.returns
returns c = undisturbed
