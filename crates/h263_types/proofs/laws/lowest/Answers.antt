use Rattle.h263_types.proofs.Marked.{has_lowest}
use Rattle.h263_types.proofs.laws.lowest.Goals as goal

pub returns : goal.returns
returns c = has_lowest
