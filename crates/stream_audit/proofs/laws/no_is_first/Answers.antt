use Rattle.stream_audit.proofs.Breaking.{no_is_first}
use Rattle.stream_audit.proofs.laws.no_is_first.Goals as goal

pub returns : goal.returns
returns g c decoding read rules lawful = no_is_first decoding read rules lawful c.searches.ensures.all_below
