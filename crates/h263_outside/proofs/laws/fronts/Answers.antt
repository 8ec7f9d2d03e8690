use Rattle.h263_outside.proofs.Roles.{nothing_gained, part_after, front_after, all_gained, front_so_far, before_stays}
use Rattle.h263_outside.proofs.laws.fronts.Goals as goal

pub returns-clause-nothing : goal.returns-clause-nothing
returns-clause-nothing c = nothing_gained

pub returns-clause-part : goal.returns-clause-part
returns-clause-part c = part_after

pub returns-clause-front_of_part : goal.returns-clause-front_of_part
returns-clause-front_of_part c = front_after

pub returns-clause-all : goal.returns-clause-all
returns-clause-all c = all_gained

pub returns-clause-so_far : goal.returns-clause-so_far
returns-clause-so_far c = front_so_far

pub returns-clause-stays : goal.returns-clause-stays
returns-clause-stays c = before_stays
