use Rattle.packet_start.proofs.Starts.{one_format, found}
use Rattle.packet_start.proofs.laws.one_format.Goals as goal

pub returns-clause-one : goal.returns-clause-one
returns-clause-one c = one_format

pub returns-clause-found : goal.returns-clause-found
returns-clause-found c = found c.start_is_of_format.ensures
