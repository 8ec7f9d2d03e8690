use Rattle.desk_program.specs.Run.{run_from}
use Rattle.recv_command.specs.Recv.{recv_begin, recv_step}
use Rattle.recv_command.proofs.Followed.{receives}
use Rattle.recv_command.proofs.laws.recv_follows_its_log.Goals as goal

pub returns : goal.returns
returns c p inputs =
    receives p inputs (run_from (recv_begin p inputs) recv_step 16777216 inputs)
    (c.a_run_follows_its_log.ensures p inputs)
