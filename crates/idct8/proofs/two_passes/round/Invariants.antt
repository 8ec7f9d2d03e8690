use Rattle.std.proofs.Common.{◌≡◌, ℕ, ◌<◌, length, pos, ◌+ℤ◌, ◌*ℤ◌}
use Rattle.idct8.specs.Transform.{entry, rounded}
use Rattle.idct8.specs.Vectors.{lane, sum_at}
use Rattle.idct8.proofs.two_passes.round.Given as goal

-- the rows above r are done
abbrev pub invariant-loop-r : goal.invariant-loop-r
invariant-loop-r l = (length l.out ≡ 64) × ((j k : ℕ) → j < l.r → k < 8
    → entry l.out j k ≡ rounded (pos 8192 *ℤ lane (sum_at l.fn.high j) k +ℤ lane (sum_at l.fn.low j) k))
