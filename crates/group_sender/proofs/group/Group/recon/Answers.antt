use Rattle.group_sender.specs.Holding.{pictures_alone}
use Rattle.group_sender.proofs.group.Group.recon.Goals as goal

pub returns-clause-holds : goal.returns-clause-holds
returns-clause-holds g c = λ run held. c.recon.ensures.holds (pictures_alone run) held.sender
