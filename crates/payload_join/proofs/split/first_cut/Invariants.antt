use Rattle.std.proofs.Common.{◌≡◌, ℕ, ◌<◌, false, drop}
use Rattle.payload_join.specs.Split.{starts_part}
use Rattle.payload_join.proofs.split.first_cut.Given as goal

abbrev pub invariant-bytes : goal.invariant-bytes
invariant-bytes l = (k : ℕ) → k < l.at → starts_part (drop k l.bytes) ≡ false
