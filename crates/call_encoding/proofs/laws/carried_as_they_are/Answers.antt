use Rattle.call_encoding.proofs.Styles.{carried_all, in_its_format}
use Rattle.call_encoding.proofs.laws.carried_as_they_are.Goals as goal

pub returns-clause-messages : goal.returns-clause-messages
returns-clause-messages c = carried_all

pub returns-clause-picture : goal.returns-clause-picture
returns-clause-picture c = in_its_format
