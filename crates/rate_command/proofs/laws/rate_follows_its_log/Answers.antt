use Rattle.desk_program.specs.Run.{run_from}
use Rattle.rate_command.specs.Rate.{rate_begin, rate_step}
use Rattle.rate_command.proofs.Followed.{measures}
use Rattle.rate_command.proofs.laws.rate_follows_its_log.Goals as goal

pub returns : goal.returns
returns c b inputs =
    measures b inputs (run_from (rate_begin b inputs) rate_step 16777216 inputs)
    (c.a_run_follows_its_log.ensures b inputs)
