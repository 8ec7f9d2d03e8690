use Rattle.command_words.proofs.Named.{named_where_asked}
use Rattle.command_words.proofs.laws.names_are_given.Goals as goal

pub returns : goal.returns
returns c = named_where_asked
