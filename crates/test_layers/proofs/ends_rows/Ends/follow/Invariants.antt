use Rattle.std.proofs.Common.{◌≡◌}
use Rattle.test_layers.proofs.ends_rows.Ends.follow.Given as goal

-- the ends have one format
abbrev pub invariant-times : goal.invariant-times
invariant-times l = l.self.format ≡ l.self.sender.params.format
