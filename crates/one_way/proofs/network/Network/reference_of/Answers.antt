use Rattle.std.proofs.Common.{ℕ, ap, ◌∙◌}
use Rattle.one_way.specs.Both.{both_after, steady}
use Rattle.one_way.specs.Seen.{reference_in}
use Rattle.one_way.proofs.network.Network.reference_of.Goals as goal

pub returns : goal.returns
returns c = λ p sender before frames past begun h ahead.
    c.reference_of.ensures p sender c.args.receiver.now before frames past begun h.way_holds c.played.ensures.count
    ahead
    ∙ ap (λ (n : ℕ). reference_in (both_after p (steady p) frames before past).sender.coded n) c.played.ensures.count
