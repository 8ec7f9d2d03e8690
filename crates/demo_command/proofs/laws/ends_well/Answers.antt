use Rattle.demo_command.proofs.Telling.{tells}
use Rattle.demo_command.proofs.laws.ends_well.Goals as goal

pub returns : goal.returns
returns c = λ t inputs. (tells t inputs).status
