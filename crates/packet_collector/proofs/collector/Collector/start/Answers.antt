use Rattle.std.proofs.Common.{rules, refl, ◌∙◌}
use Rattle.packet_collector.proofs.Rows.{starts}
use Rattle.packet_collector.proofs.collector.Collector.start.Goals as goal

pub returns-clause-empty : goal.returns-clause-empty
returns-clause-empty c = starts _ _ _ _ refl
    (c.into_boxed_slice.ensures.items ∙ c.in_ok-vec.ensures.items_if_clones_equal (λ y is. search rules))
    (c.into_boxed_slice-2.ensures.items ∙ c.in_ok-vec-2.ensures.items_if_clones_equal (λ y is. is))
