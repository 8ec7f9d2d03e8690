-- Each command's run is that of its arm. Of a group's roles no two are one, and with them it may begin.
use Rattle.std.proofs.Common.{true, false, List, [], ◌∷◌, ap, sym, ◌∙◌, subst}
use Rattle.std.specs.Prelude.{IsTrue}
use Rattle.h263_outside.specs.Desk.{with_role}
use Rattle.h263_outside.specs.declared.desk.Role.{Role}
use Rattle.h263_outside.specs.declared.desk.Role.TheVariants.{Report}
use Rattle.command_words.specs.Asked.{IsCommand}
use Rattle.h263_types.specs.Texts.{Text}
use Rattle.command_words.specs.declared.command.Command.{Command}
use Rattle.desk_program.specs.Attached.{AreAttached, are_free, names}
use Rattle.h263rps_run.specs.Output.{roles_of}
use Rattle.h263rps_run.proofs.Asked.{run_as}
use Rattle.h263rps_run.proofs.Grouped.{group_free, group_opens}
use Rattle.h263rps_run.proofs.commands.perform_command.Goals as goal

pub carry_out-requires-in-Group-clause-free : goal.carry_out-requires-in-Group-clause-free
carry_out-requires-in-Group-clause-free g c =
    let a = c.requires.roles.asked in
    subst (λ (l : List (Role × Text)). IsTrue (are_free (with_role (λ _. false) Report true) l))
    (sym (c.requires.roles.are ∙ ap (λ (k : Command). roles_of k a) c.in-Group.is))
    (group_free c.in-Group.params a c.in-Group.receivers)

pub carry_out-requires-in-Group-clause-opens : goal.carry_out-requires-in-Group-clause-opens
carry_out-requires-in-Group-clause-opens g c = λ now attached.
    let a = c.requires.roles.asked in
    let ready = subst IsCommand c.in-Group.is c.requires.ready in
    group_opens c.in-Group.params a c.in-Group.receivers ready.0 ready.1 ready.2 now
    (subst (λ (l : List (Role × Text)). AreAttached ((Report, []) ∷ l) now) (c.requires.roles.are
    ∙ ap (λ (k : Command). roles_of k a) c.in-Group.is) attached)

pub returns-in-Call-clause-run : goal.returns-in-Call-clause-run
returns-in-Call-clause-run g c =
    let outside = g.D.Desk.outside in
    run_as c.args.command _ (names c.args.roles.now) c.call.result (outside c.args.desk.now)
    (outside c.call.new.desk) c.in-Call.is c.call.ensures.run

pub returns-in-Send-clause-run : goal.returns-in-Send-clause-run
returns-in-Send-clause-run g c =
    let outside = g.D.Desk.outside in
    run_as c.args.command _ (names c.args.roles.now) c.carry_out.result (outside c.args.desk.now)
    (outside c.carry_out.new.desk) c.in-Send.is c.carry_out.ensures.run

pub returns-in-Recv-clause-run : goal.returns-in-Recv-clause-run
returns-in-Recv-clause-run g c =
    let outside = g.D.Desk.outside in
    run_as c.args.command _ (names c.args.roles.now) c.receive.result (outside c.args.desk.now)
    (outside c.receive.new.desk) c.in-Recv.is c.receive.ensures.run

pub returns-in-Demo-clause-run : goal.returns-in-Demo-clause-run
returns-in-Demo-clause-run g c =
    let outside = g.D.Desk.outside in
    run_as c.args.command _ (names c.args.roles.now) c.carry_out-in-Demo.result (outside c.args.desk.now)
    (outside c.carry_out-in-Demo.new.desk) c.in-Demo.is c.carry_out-in-Demo.ensures.run

pub returns-in-Rate-clause-run : goal.returns-in-Rate-clause-run
returns-in-Rate-clause-run g c =
    let outside = g.D.Desk.outside in
    run_as c.args.command _ (names c.args.roles.now) c.carry_out-in-Rate.result (outside c.args.desk.now)
    (outside c.carry_out-in-Rate.new.desk) c.in-Rate.is c.carry_out-in-Rate.ensures.run

pub returns-in-Audit-clause-run : goal.returns-in-Audit-clause-run
returns-in-Audit-clause-run g c =
    let outside = g.D.Desk.outside in
    run_as c.args.command _ (names c.args.roles.now) c.carry_out-in-Audit.result (outside c.args.desk.now)
    (outside c.carry_out-in-Audit.new.desk) c.in-Audit.is c.carry_out-in-Audit.ensures.run

pub returns-in-Duplex-clause-run : goal.returns-in-Duplex-clause-run
returns-in-Duplex-clause-run g c =
    let outside = g.D.Desk.outside in
    run_as c.args.command _ (names c.args.roles.now) c.carry_out-in-Duplex.result (outside c.args.desk.now)
    (outside c.carry_out-in-Duplex.new.desk) c.in-Duplex.is c.carry_out-in-Duplex.ensures.run

pub returns-in-Group-clause-run : goal.returns-in-Group-clause-run
returns-in-Group-clause-run g c =
    let outside = g.D.Desk.outside in
    run_as c.args.command _ (names c.args.roles.now) c.carry_out-in-Group.result (outside c.args.desk.now)
    (outside c.carry_out-in-Group.new.desk) c.in-Group.is c.carry_out-in-Group.ensures.run
