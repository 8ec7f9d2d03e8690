use Rattle.h263_outside.proofs.Writes.{front_first, front_second}
use Rattle.h263_outside.proofs.laws.fronts_of_two.Goals as goal

pub returns-clause-first : goal.returns-clause-first
returns-clause-first c = front_first

pub returns-clause-second : goal.returns-clause-second
returns-clause-second c = front_second
