use Rattle.timed_receiver.proofs.Waiting.{plays_wait}
use Rattle.timed_receiver.proofs.laws.plays_wait.Goals as goal

pub returns : goal.returns
returns c = plays_wait c.in_time.ensures
