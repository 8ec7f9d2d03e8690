use Rattle.log_command.proofs.Followed.{follows}
use Rattle.log_command.proofs.laws.a_run_follows_its_log.Goals as goal

pub returns : goal.returns
returns g c setup inputs =
    let command = g.C.LogCommand in
    follows command.rules (command.first setup) (command.head setup) inputs
