use Rattle.desk_program.specs.Ends.{IsReadOut}
use Rattle.std.proofs.Common.{Option, subst}
use Rattle.h263_outside.specs.declared.desk.Role.{Role}
use Rattle.call_report.specs.Status.{phase}
use Rattle.desk_program.proofs.Running.{later_stop, not_read_out, roles_on}
use Rattle.desk_program.proofs.acts.AnyActs.act.Goals as goal

pub returns-in-Ok-clause-gives : goal.returns-in-Ok-clause-gives
returns-in-Ok-clause-gives g c = λ inputs told.
    let outside = g.D.Desk.outside in
    c.take_turns-status.ensures.gives _ inputs (outside c.args.desk.now).written (c.in-Ok.ensures.goes inputs told)

pub returns-in-Ok-clause-whole_input : goal.returns-in-Ok-clause-whole_input
returns-in-Ok-clause-whole_input g c = λ inputs told.
    let outside = g.D.Desk.outside in
    subst (λ (source : Option Role). IsReadOut c.take_turns-status.result source (outside c.take_turns-status.new.desk))
    c.in-Ok.ensures.source
    (c.take_turns-status.ensures.whole_input _ inputs (outside c.args.desk.now).written
    (c.in-Ok.ensures.goes inputs told))

pub returns-in-Err-clause-whole_input : goal.returns-in-Err-clause-whole_input
returns-in-Err-clause-whole_input g c = λ inputs told.
    not_read_out (phase c.in-Err.status) (g.B.Begins.source c.args.setup.now) (g.D.Desk.outside c.start.new.desk)
    c.in-Err.ensures.stop

pub returns-in-Err-clause-later : goal.returns-in-Err-clause-later
returns-in-Err-clause-later g c = later_stop (phase c.in-Err.status) c.in-Err.ensures.stop

pub returns-in-Ok-clause-rest : goal.returns-in-Ok-clause-rest
returns-in-Ok-clause-rest g c =
    let outside = g.D.Desk.outside in
    roles_on (outside c.args.desk.now) (outside c.start.new.desk) (outside c.take_turns-status.new.desk)
    c.start.ensures.rest c.take_turns-status.ensures.rest
