use Rattle.h263_types.proofs.Marked.{each_is_marked}
use Rattle.h263_types.proofs.laws.marks.Goals as goal

pub returns : goal.returns
returns c = each_is_marked
