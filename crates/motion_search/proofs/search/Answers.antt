use Rattle.h263_planes.specs.Lent.{picture}
use Rattle.motion_search.proofs.search.Goals as goal

pub search_from-requires-clause-sums : goal.search_from-requires-clause-sums
search_from-requires-clause-sums c = c.none-sums.ensures (picture c.args.reference)
