use Rattle.group_command.proofs.Asking.{all_allowed, capture_refused, frame_asked}
use Rattle.group_command.proofs.room.Room.capture.Goals as goal

pub returns-in_err-allow-clause-takes : goal.returns-in_err-allow-clause-takes
returns-in_err-allow-clause-takes g c =
    let m = c.args.self.now in
    let now = g.D.Desk.outside c.args.desk.now in
    capture_refused m c.args.line now c.turning.ensures.lines c.turning.ensures.steps c.from_residual.result
    c.in_err-allow.field-0.0 c.check.result c.from_residual.ensures.1 c.in_err-allow.ensures.err
    (λ o s inputs b. all_allowed m c.args.line now o s inputs b c.half-half.result c.check.result c.half-half.ensures
    c.check.ensures)

pub returns-clause-takes : goal.returns-clause-takes
returns-clause-takes g c =
    let outside = g.D.Desk.outside in
    let m = c.args.self.now in
    let now = outside c.args.desk.now in
    frame_asked m c.args.line now c.send_frame.new.self c.send_frame.result (outside c.send_frame.new.desk)
    c.check.result c.in_ok-allow.ensures.ok c.send_frame.ensures.takes
    (λ o s inputs b. all_allowed m c.args.line now o s inputs b c.half-half.result c.check.result c.half-half.ensures
    c.check.ensures)
