use Rattle.one_way.proofs.Agreeing.{show_the_same}
use Rattle.one_way.proofs.laws.ends_agree.Goals as goal

pub returns : goal.returns
returns c = λ p frames past in_range near.
    show_the_same p in_range (c.call_laws.ensures p in_range) (c.near_event_laws.ensures p in_range) frames past near
