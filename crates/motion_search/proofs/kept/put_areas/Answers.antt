use Rattle.std.proofs.Common.{◌∙◌, ap, length, ◌+◌}
use Rattle.motion_search.specs.Areas.{area_sum}
use Rattle.motion_search.proofs.AreaSums.{length-sixteen}
use Rattle.motion_search.proofs.Held.{apart_twice, stored_twice}
use Rattle.motion_search.proofs.kept.put_areas.Goals as goal

pub put-requires-clause-sums : goal.put-requires-clause-sums
put-requires-clause-sums c =
    let some = c.requires.columns in
    ap length (c.areas.ensures some.samples some.row some.bytes some.sums).0
    ∙ length-sixteen (λ i. area_sum some.samples i some.row)

pub put-requires-2-clause-sums : goal.put-requires-2-clause-sums
put-requires-2-clause-sums c =
    let some = c.requires.columns in
    ap length (c.areas.ensures some.samples some.row some.bytes some.sums).1
    ∙ length-sixteen (λ i. area_sum some.samples (8 + i) some.row)

pub returns-clause-others : goal.returns-clause-others
returns-clause-others c = apart_twice c.args.out.now c.put.new.out c.put-2.new.out c.args.at c.put.ensures.others
    c.put-2.ensures.others

pub returns-clause-stored : goal.returns-clause-stored
returns-clause-stored c = λ f y i bytes cols hi.
    let sums = c.areas.ensures f y bytes cols in
    stored_twice f y c.put.new.out c.put-2.new.out c.areas.result.0 c.areas.result.1 c.args.at i sums.0 sums.1
    c.put.ensures.stored c.put-2.ensures.stored c.put-2.ensures.others hi
