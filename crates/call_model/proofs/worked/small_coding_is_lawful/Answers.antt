use Rattle.call_model.proofs.SmallLaws.{small_lawful}
use Rattle.call_model.proofs.worked.small_coding_is_lawful.Goals as goal

pub returns : goal.returns
returns c rules two = small_lawful rules two
