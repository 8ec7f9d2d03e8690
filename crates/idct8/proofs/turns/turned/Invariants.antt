use Rattle.std.proofs.Common.{◌≡◌, ℕ, ◌+◌, ◌*◌, ◌<◌, length}
use Rattle.idct8.specs.Vectors.{row_at, woven_first, woven_last}
use Rattle.idct8.proofs.turns.turned.Given as goal

-- the rows before are woven
abbrev pub invariant-loop-k : goal.invariant-loop-k
invariant-loop-k l = (length l.turned ≡ 8) × ((j : ℕ) → j < l.k →
    (row_at l.turned (2 * j) ≡ woven_first (row_at l.fn.r j) (row_at l.fn.r (j + 4)))
    × (row_at l.turned (2 * j + 1) ≡ woven_last (row_at l.fn.r j) (row_at l.fn.r (j + 4))))
