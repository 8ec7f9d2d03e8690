-- The report is attached first; then the words' command is run, or its refusal told.
use Rattle.std.proofs.Common.{◌∙◌, subst}
use Rattle.call_report.specs.declared.status.Status.{Status}
use Rattle.command_words.specs.Clap.{texts}
use Rattle.command_words.specs.View.{asked_of}
use Rattle.desk_program.specs.Lines.{Finishes}
use Rattle.h263rps_run.specs.Output.{command_of}
use Rattle.h263rps_run.proofs.Asked.{asked_run, report_failed, report_alone, run_since, stopped_run}
use Rattle.h263rps_run.proofs.program.run.Goals as goal

pub returns-in-Err : goal.returns-in-Err
returns-in-Err g c =
    let outside = g.D.Desk.outside in
    let failed = c.in-Err.ensures in
    report_failed (command_of (texts c.args.words.now)) (outside c.args.desk.now) (outside c.attach_role.new.desk)
    c.in-Err.status
    (failed.err ∙ c.requires) failed.rest.left failed.rest.written failed.cause failed.kind

pub run_command-requires-clause-report : goal.run_command-requires-clause-report
run_command-requires-clause-report g c =
    let outside = g.D.Desk.outside in
    let attached = c.in_default.ensures in
    report_alone (outside c.args.desk.now) (outside c.attach_role.new.desk) c.requires attached.attached attached.name

pub run_command-requires-clause-named : goal.run_command-requires-clause-named
run_command-requires-clause-named g c = c.names_are_given.ensures (texts c.args.words.now)
    (asked_of c.in-Ok.words) c.in-Ok.ensures.answer

pub returns-in-Ok : goal.returns-in-Ok
returns-in-Ok g c =
    let outside = g.D.Desk.outside in
    asked_run (texts c.args.words.now) (asked_of c.in-Ok.words) (outside c.args.desk.now)
    (outside c.attach_role.new.desk) (outside c.run_command.new.desk) c.run_command.result c.attach_role.ensures.rest
    c.in_default.ensures.ok_faults c.in-Ok.ensures.answer c.run_command.ensures

pub returns-in-Err-read : goal.returns-in-Err-read
returns-in-Err-read g c =
    let outside = g.D.Desk.outside in
    let old = outside c.args.desk.now in
    let mid = outside c.attach_role.new.desk in
    let new = outside c.finish.new.desk in
    let words = texts c.args.words.now in
    let attached = c.in_default.ensures in
    run_since (command_of words) old mid new c.finish.result c.attach_role.ensures.rest attached.ok_faults
    (stopped_run words c.in-Err-read.stop mid new c.in-Err-read.ensures.answer
    (report_alone old mid c.requires attached.attached attached.name)
    c.finish.ensures.rest c.finish.result (subst (λ (s : Status). Finishes s c.finish.result mid new) c.unasked.ensures
    c.finish.ensures.told))
