use Rattle.std.proofs.Common.{◌≡◌}
use Rattle.test_layers.proofs.ends_rows.Ends.send.Given as goal

abbrev pub invariant-packets : goal.invariant-packets
invariant-packets l = record {
  sender : l.self.sender ≡ l.fn.self.sender;
  format : l.self.format ≡ l.fn.self.format;
}
