use Rattle.desk_program.specs.Run.{run_from}
use Rattle.recv_command.specs.Join.{join_begin, join_step, packets_among, through}
use Rattle.recv_command.proofs.FollowedJoined.{joins}
use Rattle.recv_command.proofs.laws.joined_recv_follows_its_log.Goals as goal

pub returns : goal.returns
unfolding packets_among through
returns c p inputs =
    joins p inputs (run_from (join_begin p inputs) join_step 16777216 inputs) (c.a_run_follows_its_log.ensures p inputs)
