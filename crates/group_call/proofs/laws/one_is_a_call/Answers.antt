use Rattle.call_decoding.specs.Rules.{rules_of}
use Rattle.call_decoding.specs.Samples.{pictures}
use Rattle.call_encoding.specs.Encoding.{encoding}
use Rattle.group_call.proofs.Calling.{is_the_call}
use Rattle.group_call.proofs.laws.one_is_a_call.Goals as goal

pub returns : goal.returns
returns c = λ p frames past.
    is_the_call p frames (c.ends_run.ensures p) (c.one_is_a_sender.ensures (pictures p.format) (encoding p)
    (rules_of p)) past
