use Rattle.packet_cutter.proofs.Styled.{by_style}
use Rattle.packet_cutter.proofs.laws.by_style.Goals as goal

pub returns : goal.returns
returns c = by_style c.longest_text.ensures
