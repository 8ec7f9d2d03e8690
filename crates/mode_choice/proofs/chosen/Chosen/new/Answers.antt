use Rattle.mode_choice.proofs.Searched.{any_of}
use Rattle.mode_choice.proofs.chosen.Chosen.new.Goals as goal

pub returns-clause-sums : goal.returns-clause-sums
returns-clause-sums c = any_of _ c.none.ensures
