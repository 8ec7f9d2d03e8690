use Rattle.std.proofs.Common.{rules}
use Rattle.mode_choice.proofs.Turned.{turned_at, turned_fits}
use Rattle.mode_choice.proofs.order.turned_zigzag_place.Goals as goal

pub returns-clause-place : goal.returns-clause-place
returns-clause-place c = let h = turned_at c.args.at c.requires in search rules

pub returns-clause-range : goal.returns-clause-range
returns-clause-range c = let h = turned_fits c.args.at c.requires in search rules
