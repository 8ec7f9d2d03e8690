use Rattle.desk_program.specs.Attached.{names}
use Rattle.h263rps_run.proofs.Promised.{performed}
use Rattle.h263rps_run.proofs.commands.carry_out.Goals as goal

-- what is promised of a run, by what `perform` says
pub returns-clause-run : goal.returns-clause-run
returns-clause-run g c =
    let outside = g.D.Desk.outside in
    let says = c.perform.ensures in
    performed (g.A.Acts.run c.args.setup.now) (names c.args.roles.now) (g.A.Acts.source c.args.setup.now)
    (outside c.args.desk.now) (outside c.perform.new.desk) c.perform.result
    says.status says.texts says.prefixes says.words says.unopened says.flushed says.causes says.attached
    says.whole_input says.taken_input
