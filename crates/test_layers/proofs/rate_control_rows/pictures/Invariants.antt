use Rattle.std.proofs.Common.{ℕ, ◌≤◌, List, length}
use Rattle.rate_control.specs.Metering.{MeterStands}
use Rattle.test_layers.proofs.rate_control_rows.pictures.Given as goal

abbrev pub invariant-packets : goal.invariant-packets
invariant-packets l =
    (packets : List (List ℕ)) × MeterStands l.meter packets × (length packets ≤ l._packet)
