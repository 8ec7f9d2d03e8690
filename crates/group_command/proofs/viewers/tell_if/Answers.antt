use Rattle.std.proofs.Common.{Option, OnErr, OnOk, sym, subst}
use Rattle.std.specs.Prelude.{IfSome}
use Rattle.desk_program.specs.Ends.{Gains, GainsFronts}
use Rattle.group_call.specs.declared.viewer.Viewer.{Viewer}
use Rattle.group_command.specs.Standing.{Watches}
use Rattle.group_command.specs.Turning.{counts_if}
use Rattle.group_command.proofs.viewers.tell_if.Goals as goal

pub returns-in-Some-clause-ok : goal.returns-in-Some-clause-ok
returns-in-Some-clause-ok g c = λ p run view cast w.
    let outside = g.D.Desk.outside in
    let watched : Watches p run c.in-Some.viewer view =
    subst (λ (o : Option Viewer). IfSome o (λ v. Watches p run v view)) c.in-Some.is w in
    subst (λ (o : Option Viewer). OnOk c.tell_counts.result (Gains (counts_if o p run c.args.place view)
    (outside c.args.desk.now).written (outside c.tell_counts.new.desk).written)) (sym c.in-Some.is)
    (c.tell_counts.ensures.ok p run view cast watched.holds)

pub returns-in-Some-clause-err : goal.returns-in-Some-clause-err
returns-in-Some-clause-err g c = λ p run view cast w.
    let outside = g.D.Desk.outside in
    let watched : Watches p run c.in-Some.viewer view =
    subst (λ (o : Option Viewer). IfSome o (λ v. Watches p run v view)) c.in-Some.is w in
    subst (λ (o : Option Viewer). OnErr c.tell_counts.result (GainsFronts (counts_if o p run c.args.place view)
    (outside c.args.desk.now).written (outside c.tell_counts.new.desk).written)) (sym c.in-Some.is)
    (c.tell_counts.ensures.err p run view cast watched.holds)
