use Rattle.call_decoding.specs.Rules.{rules_of}
use Rattle.coded_call.specs.Coding.{coding}
use Rattle.one_way.proofs.laws.later_frames.Goals as goal

pub returns : goal.returns
returns c = λ p. c.later_frames.ensures.both (coding p) (rules_of p)
