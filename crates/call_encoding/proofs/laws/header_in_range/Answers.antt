use Rattle.call_encoding.proofs.Styles.{header_in_range}
use Rattle.call_encoding.proofs.laws.header_in_range.Goals as goal

pub returns : goal.returns
returns c = header_in_range
