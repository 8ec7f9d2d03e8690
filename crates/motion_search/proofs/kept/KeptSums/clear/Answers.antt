use Rattle.std.proofs.Common.{refl}
use Rattle.motion_search.proofs.Held.{no_rows_kept}
use Rattle.motion_search.proofs.kept.KeptSums.clear.Goals as goal

pub returns-clause-sums : goal.returns-clause-sums
returns-clause-sums c = λ p are. no_rows_kept p c.args.self.now _ are refl refl
