use Rattle.call_decoding.proofs.Numbers.{ruled}
use Rattle.call_decoding.proofs.laws.are_rules.Goals as goal

pub returns : goal.returns
returns c = ruled
