use Rattle.std.proofs.Common.{◌≡◌}
use Rattle.std.specs.Int.{bit_at}
use Rattle.picture_recon.specs.Marks.{ArePut}
use Rattle.picture_recon.proofs.values.put_values_but_first.Given as goal

-- the values of the levels whose marks are taken away stand, and the first level's is one of these
abbrev pub invariant-marks : goal.invariant-marks
invariant-marks l = (ArePut l.quant l.block l.rest l.values) × (bit_at l.rest 0 ≡ 0)

-- a mark is taken away each time
abbrev pub decreases-marks : goal.decreases-marks
decreases-marks l = l.rest
