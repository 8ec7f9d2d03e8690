use Rattle.std.proofs.Common.{ℕ, ◌<◌, subst}
use Rattle.send_command.proofs.Answering.{on_err}
use Rattle.send_command.proofs.Wiring.{wire_cut}
use Rattle.send_command.proofs.capture.put_packets.Goals as goal

pub returns-in_err-put_entry-clause-err : goal.returns-in_err-put_entry-clause-err
returns-in_err-put_entry-clause-err g c =
    let outside = g.D.Desk.outside in
    on_err _ c.from_residual.result
    (wire_cut c.turn_laws.ensures c.args.sender.now.packets (outside c.args.desk.now).written
    (outside c.loop-i.desk).written (outside c.put_entry.new.desk).written c.loop-i.i c.packet.result.now
    (subst (λ (n : ℕ). c.loop-i.i < n) c.requires.count c.loop-i-test.true) c.packet.ensures.value
    c.loop-i.invariant.written c.in_err-put_entry.ensures.err)
