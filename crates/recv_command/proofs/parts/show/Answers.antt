use Rattle.std.proofs.lemmas.Result.{on_err_weaker}
use Rattle.h263_planes.specs.Lent.{picture as lent}
use Rattle.call_report.specs.View.{line_text}
use Rattle.recv_command.proofs.Showing.{cut_line, cut_message, cut_picture, on_err}
use Rattle.recv_command.proofs.parts.show.Goals as goal

pub returns-in_err-put_picture-clause-err : goal.returns-in_err-put_picture-clause-err
returns-in_err-put_picture-clause-err g c = λ clock message is.
    let outside = g.D.Desk.outside in
    on_err c.from_residual.result
    (cut_picture c.turn_laws.ensures c.args.played.number c.args.played.mark (lent c.args.picture) message
    (outside c.args.desk.now).written (outside c.put_picture.new.desk).written c.in_err-put_picture.ensures.err)

pub returns-in_err-put_line-clause-err : goal.returns-in_err-put_line-clause-err
returns-in_err-put_line-clause-err g c = λ clock message is.
    let outside = g.D.Desk.outside in
    on_err c.from_residual-in_err-put_line.result
    (cut_line c.turn_laws.ensures c.args.played.number c.args.played.mark (lent c.args.picture) message
    (outside c.args.desk.now).written (outside c.put_picture.new.desk).written (outside c.put_line.new.desk).written
    c.in_ok-put_picture.ensures.ok
    (line_text c.picture_line-line.result) c.picture_line-line.ensures c.in_err-put_line.ensures.err)

pub returns-clause-err : goal.returns-clause-err
returns-clause-err g c = λ clock message is.
    let outside = g.D.Desk.outside in
    on_err_weaker c.say.result
    (cut_message c.turn_laws.ensures c.args.played.number c.args.played.mark (lent c.args.picture) message
    (outside c.args.desk.now).written (outside c.put_picture.new.desk).written (outside c.put_line.new.desk).written
    c.in_ok-put_picture.ensures.ok
    (line_text c.picture_line-line.result) c.picture_line-line.ensures (outside c.say.new.desk).written
    c.in_ok-put_line.ensures.ok)
    (c.say.ensures.err clock message is)
