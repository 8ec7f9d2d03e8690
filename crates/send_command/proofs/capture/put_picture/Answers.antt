use Rattle.std.proofs.Common.{ℕ, List, None, Some, subst}
use Rattle.h263_outside.specs.declared.desk.Role.TheVariants.{Wire, Report}
use Rattle.call_report.specs.Text.{picture_text}
use Rattle.desk_program.specs.Ends.{GainsFronts}
use Rattle.desk_program.specs.Texts.{on}
use Rattle.send_command.specs.Send.{packets_text}
use Rattle.send_command.proofs.Answering.{on_err, on_err_so}
use Rattle.send_command.proofs.capture.put_picture.Goals as goal

pub returns-in_err-put_packets-clause-err : goal.returns-in_err-put_packets-clause-err
returns-in_err-put_packets-clause-err g c =
    let outside = g.D.Desk.outside in
    let coded = c.args.coded.now in
    on_err _ c.from_residual.result
    (c.turn_laws.ensures.front_of_first (on Wire (packets_text c.args.sender.now.packets))
    (on Report (picture_text coded.number None (Some coded.reference) None))
    (outside c.args.desk.now).written (outside c.put_packets.new.desk).written c.in_err-put_packets.ensures.err)

pub returns-clause-err : goal.returns-clause-err
returns-clause-err g c =
    let outside = g.D.Desk.outside in
    let coded = c.args.coded.now in
    let mid = (outside c.put_packets.new.desk).written in
    let new = (outside c.put_line.new.desk).written in
    let line = picture_text coded.number None (Some coded.reference) None in
    on_err_so _ _ c.put_line.result c.put_line.ensures.err
    (λ fronts. c.turn_laws.ensures.front_of_second (on Wire (packets_text c.args.sender.now.packets)) (on Report line)
    (outside c.args.desk.now).written mid new c.in_ok-put_packets.ensures.ok
    (subst (λ (l : List ℕ). GainsFronts (on Report l) mid new) c.picture_line-line.ensures fronts))
