use Rattle.duplex_command.proofs.Heading.{first_front, on_err, second_front}
use Rattle.duplex_command.proofs.heads.write_heads.Goals as goal

pub returns-in_err-put_head-clause-err : goal.returns-in_err-put_head-clause-err
returns-in_err-put_head-clause-err g c =
    let outside = g.D.Desk.outside in
    on_err c.from_residual.result
    (first_front c.turn_laws.ensures c.args.a c.args.b (outside c.args.desk.now).written
    (outside c.put_head.new.desk).written c.in_err-put_head.ensures.err)

pub returns-clause-err : goal.returns-clause-err
returns-clause-err g c =
    let outside = g.D.Desk.outside in
    second_front c.turn_laws.ensures c.args.a c.args.b (outside c.args.desk.now).written
    (outside c.put_head.new.desk).written c.put_second_head.result
    (outside c.put_second_head.new.desk).written c.in_ok-put_head.ensures.ok c.put_second_head.ensures.err
