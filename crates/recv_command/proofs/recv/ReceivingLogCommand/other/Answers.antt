use Rattle.std.proofs.Common.{[]}
use Rattle.recv_command.proofs.recv.ReceivingLogCommand.other.Goals as goal

pub returns-clause-stands : goal.returns-clause-stands
returns-clause-stands g c = λ s stands. c.play.ensures.stands s [] stands

pub returns-clause-ok : goal.returns-clause-ok
returns-clause-ok g c = λ s stands. c.play.ensures.ok s [] stands

pub returns-clause-err : goal.returns-clause-err
returns-clause-err g c = λ s stands. c.play.ensures.err s [] stands
