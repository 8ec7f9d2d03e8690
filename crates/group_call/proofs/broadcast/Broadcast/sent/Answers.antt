use Rattle.group_call.proofs.broadcast.Broadcast.sent.Goals as goal

pub returns-clause-run : goal.returns-clause-run
returns-clause-run c = λ p run h. c.sent.ensures.holds run h.holds
