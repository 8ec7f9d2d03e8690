use Rattle.std.proofs.Common.{◌≡◌, ℕ, ◌<◌, length}
use Rattle.idct8.specs.Vectors.{row_at, sum_at}
use Rattle.idct8.proofs.Shifts.{AreParts}
use Rattle.idct8.proofs.parts.split.Given as goal

-- the sums before are split
abbrev pub invariant-loop-k : goal.invariant-loop-k
invariant-loop-k l = (length l.high ≡ 8) × (length l.low ≡ 8) × ((j : ℕ) → j < l.k
    → AreParts (sum_at l.fn.s j) (row_at l.high j) (row_at l.low j))
