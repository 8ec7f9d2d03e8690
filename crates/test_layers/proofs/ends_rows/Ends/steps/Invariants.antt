use Rattle.std.proofs.Common.{◌≡◌}
use Rattle.test_layers.proofs.ends_rows.Ends.steps.Given as goal

-- the ends have one format
abbrev pub invariant-steps : goal.invariant-steps
invariant-steps l = l.self.format ≡ l.self.sender.params.format
