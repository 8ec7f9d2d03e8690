use Rattle.stream_numbers.proofs.Pacing.{never_ahead}
use Rattle.stream_numbers.proofs.laws.never_ahead.Goals as goal

pub returns : goal.returns
returns c = never_ahead
