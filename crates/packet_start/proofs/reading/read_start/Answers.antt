use Rattle.std.proofs.Common.{rules}
use Rattle.packet_start.specs.Start.{start_at}
use Rattle.packet_start.proofs.Starts.{in_format}
use Rattle.packet_start.proofs.reading.read_start.Goals as goal

pub returns-clause-exact : goal.returns-clause-exact
unfolding start_at
returns-clause-exact c = search rules

pub returns-clause-format : goal.returns-clause-format
returns-clause-format c = in_format c.start_is_of_format.ensures c.read_after.result c.args.format c.args.bytes.now
    (returns-clause-exact c)
