use Rattle.call_command.proofs.NoSecond.{none_refused}
use Rattle.call_command.proofs.laws.no_second_video.Goals as goal

pub returns : goal.returns
returns c = λ t inputs fault ends. none_refused fault t inputs ends
