use Rattle.std.proofs.Common.{rules}
use Rattle.quantiser.specs.Zigzag.{block_place_of}
use Rattle.quantiser.proofs.Orders.{block_place_fits}
use Rattle.quantiser.proofs.scan.block_place.Goals as goal

pub returns-clause-place : goal.returns-clause-place
unfolding block_place_of
returns-clause-place c = search rules

pub returns-clause-range : goal.returns-clause-range
unfolding block_place_of
returns-clause-range c = let h = block_place_fits c.args.k c.requires in search rules
