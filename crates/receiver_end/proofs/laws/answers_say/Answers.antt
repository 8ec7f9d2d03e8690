use Rattle.receiver_end.proofs.Saying.{answer_says}
use Rattle.receiver_end.proofs.laws.answers_say.Goals as goal

pub returns : goal.returns
returns c = answer_says
