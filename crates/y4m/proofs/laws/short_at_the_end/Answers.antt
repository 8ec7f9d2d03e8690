use Rattle.y4m.proofs.Places.{short_place}
use Rattle.y4m.proofs.laws.short_at_the_end.Goals as goal

pub returns : goal.returns
returns c = short_place
