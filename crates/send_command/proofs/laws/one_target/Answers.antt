use Rattle.send_command.proofs.laws.one_target.Goals as goal

pub returns : goal.returns
returns c = c.one_target.ensures
