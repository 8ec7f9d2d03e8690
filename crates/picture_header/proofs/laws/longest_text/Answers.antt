use Rattle.picture_header.proofs.Texts.{is_short}
use Rattle.picture_header.proofs.laws.longest_text.Goals as goal

pub returns : goal.returns
returns c = is_short
