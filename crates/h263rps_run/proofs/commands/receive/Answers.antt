use Rattle.std.proofs.Common.{Bool, ap}
use Rattle.command_words.specs.declared.command.Command.TheVariants.{Recv}
use Rattle.desk_program.specs.Attached.{names}
use Rattle.h263rps_run.proofs.Asked.{run_as}
use Rattle.h263rps_run.proofs.commands.receive.Goals as goal

pub returns-then-join-clause-run : goal.returns-then-join-clause-run
returns-then-join-clause-run g c =
    let outside = g.D.Desk.outside in
    run_as (Recv c.args.params c.args.join) _ (names c.args.roles.now) c.carry_out.result (outside c.args.desk.now)
    (outside c.carry_out.new.desk) (ap (λ (b : Bool). Recv c.args.params b) c.if-join.true) c.carry_out.ensures.run

pub returns-else-join-clause-run : goal.returns-else-join-clause-run
returns-else-join-clause-run g c =
    let outside = g.D.Desk.outside in
    run_as (Recv c.args.params c.args.join) _ (names c.args.roles.now) c.carry_out-else-join.result
    (outside c.args.desk.now) (outside c.carry_out-else-join.new.desk)
    (ap (λ (b : Bool). Recv c.args.params b) c.if-join.false) c.carry_out-else-join.ensures.run
