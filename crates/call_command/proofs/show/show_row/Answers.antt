use Rattle.std.proofs.lemmas.Result.{on_ok_weaker, on_err_weaker}
use Rattle.h263_planes.specs.Lent.{picture}
use Rattle.call_report.specs.View.{line_text}
use Rattle.call_command.proofs.Writing.{on_err, first_front, both_gain, second_front}
use Rattle.call_command.proofs.show.show_row.Goals as goal

pub returns-in_err-put_shown-clause-err : goal.returns-in_err-put_shown-clause-err
returns-in_err-put_shown-clause-err g c =
    let outside = g.D.Desk.outside in
    on_err c.from_residual.result
    (first_front c.turn_laws.ensures c.args.row.now (picture c.args.picture)
    (outside c.args.desk.now).written (outside c.put_shown.new.desk).written c.in_err-put_shown.ensures.err)

pub returns-clause-ok : goal.returns-clause-ok
returns-clause-ok g c =
    let outside = g.D.Desk.outside in
    on_ok_weaker c.put_line.result
    (both_gain c.turn_laws.ensures c.args.row.now (picture c.args.picture)
    (outside c.args.desk.now).written (outside c.put_shown.new.desk).written (outside c.put_line.new.desk).written
    (line_text c.picture_line-line.result) c.picture_line-line.ensures c.in_ok-put_shown.ensures.ok)
    c.put_line.ensures.ok

pub returns-clause-err : goal.returns-clause-err
returns-clause-err g c =
    let outside = g.D.Desk.outside in
    on_err_weaker c.put_line.result
    (second_front c.turn_laws.ensures c.args.row.now (picture c.args.picture)
    (outside c.args.desk.now).written (outside c.put_shown.new.desk).written (outside c.put_line.new.desk).written
    (line_text c.picture_line-line.result) c.picture_line-line.ensures c.in_ok-put_shown.ensures.ok)
    c.put_line.ensures.err
