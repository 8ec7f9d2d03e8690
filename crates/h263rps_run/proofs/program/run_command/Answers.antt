-- The command's run is that of the words, with the roles that they name.
use Rattle.std.proofs.Common.{ap, sym, ◌∙◌, arith}
use Rattle.command_words.specs.View.{asked_of}
use Rattle.command_words.specs.declared.command.Command.{Command}
use Rattle.h263rps_run.specs.Output.{roles_of}
use Rattle.h263rps_run.proofs.Asked.{command_run}
use Rattle.h263rps_run.proofs.program.run_command.Goals as goal

pub slice_bounds-places-end-2 : goal.slice_bounds-places-end-2
slice_bounds-places-end-2 g c = omega (arith, c.put_roles-count.ensures.few, c.put_roles-count.ensures.long)

pub perform_command-requires-clause-roles : goal.perform_command-requires-clause-roles
perform_command-requires-clause-roles g c =
    let a = asked_of c.args.words.now in
    record {
      asked = a;
      are = c.put_roles-count.ensures.roles ∙ ap (λ (k : Command). roles_of k a) (sym c.command.ensures);
    }

pub returns : goal.returns
returns g c =
    let outside = g.D.Desk.outside in
    let done = c.perform_command in
    command_run (asked_of c.args.words.now) c.command.result _ (outside c.args.desk.now) (outside done.new.desk)
    done.result c.refused_videos.ensures c.put_roles-count.ensures.roles (sym c.command.ensures) done.ensures.run
    done.ensures.words
