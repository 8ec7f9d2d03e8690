use Rattle.y4m.proofs.Words.{tags_found}
use Rattle.y4m.proofs.laws.tags_are_words.Goals as goal

pub returns : goal.returns
returns c = tags_found
