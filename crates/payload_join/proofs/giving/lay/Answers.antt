use Rattle.std.proofs.Common.{◌∙◌}
use Rattle.payload_join.specs.Outgoing.{out_by, outgoing_of}
use Rattle.payload_join.specs.Places.{place_at}
use Rattle.payload_join.proofs.giving.lay.Goals as goal

pub returns-clause-left : goal.returns-clause-left
unfolding outgoing_of
returns-clause-left c =
    c.fronts.ensures.left ∙ (λ i. out_by c.args.format (c.gather-to.ensures.coded i)
    (place_at (c.gather-to.ensures.packets i) c.args.unit.number))
