use Rattle.group_command.proofs.FaultOfVideo.{no_second}
use Rattle.group_command.proofs.laws.no_second_video.Goals as goal

pub returns : goal.returns
returns c = λ t inputs fault ends. no_second fault t inputs ends
