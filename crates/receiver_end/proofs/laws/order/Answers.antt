use Rattle.call_decoding.specs.Rules.{rules_of}
use Rattle.receiver_end.specs.Decoding.{decoding}
use Rattle.receiver_end.proofs.laws.order.Goals as goal

pub returns : goal.returns
returns c p is = c.order.ensures (decoding p.format) (rules_of p) (c.is_decoding.ensures p) (c.are_rules.ensures p is)
