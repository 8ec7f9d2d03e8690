use Rattle.call_decoding.specs.Rules.{rules_of}
use Rattle.coded_call.specs.Coding.{coding}
use Rattle.coded_call.proofs.laws.two_stores.Goals as goal

pub returns : goal.returns
returns c p pace frames past in_range paced near =
    c.two_stores.ensures (coding p) (rules_of p) pace frames past (c.is_coding.ensures p in_range)
    (c.are_rules.ensures p in_range) paced near
