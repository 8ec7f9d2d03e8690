use Rattle.desk_program.specs.Run.{run_from}
use Rattle.audit_command.specs.Audit.{audit_begin, audit_step}
use Rattle.audit_command.proofs.Followed.{audits}
use Rattle.audit_command.proofs.laws.audit_follows_its_log.Goals as goal

pub returns : goal.returns
returns c p inputs =
    audits p (c.lines_tell_verdicts.ensures p) inputs (run_from (audit_begin p inputs) audit_step 16777216 inputs)
    (c.a_run_follows_its_log.ensures p inputs)
