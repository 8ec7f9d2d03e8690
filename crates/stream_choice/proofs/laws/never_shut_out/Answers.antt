use Rattle.stream_choice.proofs.Beside.{not_shut_out}
use Rattle.stream_choice.proofs.laws.never_shut_out.Goals as goal

pub returns : goal.returns
returns c = not_shut_out
