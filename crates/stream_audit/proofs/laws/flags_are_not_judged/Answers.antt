use Rattle.stream_audit.proofs.Flags.{not_judged}
use Rattle.stream_audit.proofs.laws.flags_are_not_judged.Goals as goal

pub returns : goal.returns
returns g c decoding read rules = not_judged decoding read rules
