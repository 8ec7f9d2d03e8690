use Rattle.call_decoding.proofs.Numbers.{whole}
use Rattle.call_decoding.proofs.laws.whole_header.Goals as goal

pub returns : goal.returns
returns c = whole
