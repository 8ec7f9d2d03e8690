use Rattle.group_sender.proofs.Intra.{waiting_is_intra}
use Rattle.group_sender.proofs.Lawful.{all_have_is, reference_is}
use Rattle.group_sender.proofs.laws.newest_of_all.Goals as goal

pub returns-clause-reference : goal.returns-clause-reference
returns-clause-reference g c pictures encoding rules = reference_is pictures encoding rules c.searches.ensures.greatest

pub returns-clause-all : goal.returns-clause-all
returns-clause-all g c = all_have_is

pub returns-clause-waits : goal.returns-clause-waits
returns-clause-waits g c pictures encoding rules = waiting_is_intra pictures encoding rules c.searches.ensures.greatest
    c.searches.ensures.no_greatest
