use Rattle.std.proofs.Common.{◌≡◌, ℕ, ◌+◌, ◌<◌, length}
use Rattle.idct8.specs.Vectors.{row_at}
use Rattle.idct8.proofs.Squares.{IsFolded}
use Rattle.idct8.proofs.small.folded.Given as goal

-- the rows before are folded
abbrev pub invariant-loop-k : goal.invariant-loop-k
invariant-loop-k l = (length l.rows ≡ 8) × ((j : ℕ) → j < l.k
    → IsFolded l.fn.block j (row_at l.rows j) (row_at l.rows (4 + j)))
