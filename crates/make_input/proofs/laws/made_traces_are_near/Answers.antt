use Rattle.make_input.proofs.Near.{made_near}
use Rattle.make_input.proofs.laws.made_traces_are_near.Goals as goal

pub returns : goal.returns
returns g c = λ pictures rules source seed frames half sends. made_near pictures rules source
    c.searches.ensures.all_below seed frames half sends
