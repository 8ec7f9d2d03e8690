use Rattle.send_command.proofs.NoSecond.{none_refused}
use Rattle.send_command.proofs.laws.no_second_video.Goals as goal

pub returns : goal.returns
returns c = λ setup inputs fault ends. none_refused fault setup inputs ends
