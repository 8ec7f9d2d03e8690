use Rattle.std.proofs.Common.{◌∷◌, [], Option, subst}
use Rattle.h263_outside.specs.declared.desk.Role.{Role}
use Rattle.h263_outside.specs.declared.desk.Role.TheVariants.{Report}
use Rattle.command_words.specs.declared.command.Command.TheVariants.{Call}
use Rattle.desk_program.specs.Attached.{names}
use Rattle.h263rps_run.specs.Output.{run_of_command}
use Rattle.h263rps_run.specs.Promises.{IsRunOf}
use Rattle.h263rps_run.proofs.Asked.{call_source}
use Rattle.h263rps_run.proofs.commands.call.Goals as goal

-- its end is that of its video, or of its trace
pub returns-clause-run : goal.returns-clause-run
returns-clause-run g c =
    let outside = g.D.Desk.outside in
    subst (λ (source : Option Role). IsRunOf (run_of_command (Call c.args.params c.args.traced))
    ((Report, []) ∷ names c.args.roles.now) source c.carry_out.result (outside c.args.desk.now)
    (outside c.carry_out.new.desk)) (call_source c.args.params c.args.traced) c.carry_out.ensures.run
