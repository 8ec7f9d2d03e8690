use Rattle.call_decoding.specs.Rules.{rules_of}
use Rattle.coded_call.specs.Coding.{coding}
use Rattle.duplex_ends.proofs.laws.later_calls.Goals as goal

pub returns : goal.returns
returns c = λ p. c.later_frames.ensures.ideal (coding p) (rules_of p)
