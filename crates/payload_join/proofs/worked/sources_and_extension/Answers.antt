use Rattle.std.proofs.Common.{refl}
use Rattle.payload_join.specs.Computing.{whole_runs}
use Rattle.payload_join.proofs.worked.sources_and_extension.Goals as goal

pub returns : goal.returns
unfolding whole_runs
returns c = record { each_is = refl; out_is = refl }
