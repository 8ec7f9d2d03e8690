use Rattle.std.proofs.Common.{◌-◌}
use Rattle.line_follower.proofs.Targets.{Between}
use Rattle.line_follower.proofs.search.target_for.Given as goal

abbrev pub invariant-loop-low : goal.invariant-loop-low
invariant-loop-low l = Between l.quant l.finest l.most l.sizes l.low l.high

abbrev pub decreases-loop-low : goal.decreases-loop-low
decreases-loop-low l = l.high - l.low
