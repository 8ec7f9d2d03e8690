use Rattle.std.proofs.Common.{rules}
use Rattle.quantiser.specs.Zigzag.{zigzag_place_of}
use Rattle.quantiser.proofs.Orders.{later_place, zigzag_place_fits}
use Rattle.quantiser.proofs.scan.zigzag_place.Goals as goal

pub returns-clause-place : goal.returns-clause-place
unfolding zigzag_place_of
returns-clause-place c = search rules

pub returns-clause-range : goal.returns-clause-range
unfolding zigzag_place_of
returns-clause-range c = let h = zigzag_place_fits c.args.at c.requires in search rules

pub returns-clause-later : goal.returns-clause-later
unfolding zigzag_place_of
returns-clause-later c = let h = later_place c.args.at c.requires in search rules
