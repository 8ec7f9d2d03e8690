use Rattle.std.proofs.Common.{rules, refl, ◌∙◌}
use Rattle.std.proofs.lemmas.List.{with_items_is}
use Rattle.packet_collector.proofs.Rows.{starts}
use Rattle.packet_collector.proofs.collector.Collector.restart.Goals as goal

pub returns-clause-empty : goal.returns-clause-empty
returns-clause-empty c =
    let self = c.args.self.now in
    let headers = with_items_is self.headers.items c.fill.new.self (c.fill.ensures.len ∙ c.deref_mut.ensures.len) in
    let marks = with_items_is self.marks.items c.fill-2.new.self (c.fill-2.ensures.len ∙ c.deref_mut-2.ensures.len) in
    starts _ c.args.first _ _ refl (headers ∙ c.fill.ensures.after (λ y is. search rules)) (marks
    ∙ c.fill-2.ensures.after (λ y is. is))
