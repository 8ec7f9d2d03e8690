use Rattle.h263_outside.proofs.Roles.{gained_at, stays_at, front_at, front_stays_at}
use Rattle.h263_outside.proofs.laws.roles.Goals as goal

pub returns-clause-gains : goal.returns-clause-gains
returns-clause-gains c = gained_at

pub returns-clause-stays : goal.returns-clause-stays
returns-clause-stays c = stays_at

pub returns-clause-front : goal.returns-clause-front
returns-clause-front c = front_at

pub returns-clause-front_stays : goal.returns-clause-front_stays
returns-clause-front_stays c = front_stays_at
