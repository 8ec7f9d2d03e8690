use Rattle.payload_join.proofs.Fronts.{ends_within, ends_past, ends_with_fault}
use Rattle.payload_join.proofs.front.find_end.Goals as goal

pub returns-then-end-le504-clause-exact : goal.returns-then-end-le504-clause-exact
returns-then-end-le504-clause-exact c =
    ends_within c.args.format c.args.coded.now c.spelling.ensures.whole c.new-reader.ensures.bits c.in-Ok.ensures.exact
    c.at-end.ensures c.if-end-le504.true

pub returns-else-end-le504-clause-exact : goal.returns-else-end-le504-clause-exact
returns-else-end-le504-clause-exact c =
    ends_past c.args.format c.args.coded.now c.spelling.ensures.whole c.new-reader.ensures.bits c.in-Ok.ensures.exact
    c.at-end.ensures c.if-end-le504.false

pub returns-in-Err-clause-exact : goal.returns-in-Err-clause-exact
returns-in-Err-clause-exact c =
    ends_with_fault c.args.format c.args.coded.now c.spelling.ensures.whole c.new-reader.ensures.bits
    c.in-Err.ensures.exact
