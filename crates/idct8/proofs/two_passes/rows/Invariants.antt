use Rattle.std.proofs.Common.{◌≡◌, ℕ, ◌<◌, length}
use Rattle.idct8.specs.Transform.{entry}
use Rattle.idct8.specs.Vectors.{lane, row_at, EightWithin}
use Rattle.idct8.proofs.two_passes.rows.Given as goal

-- the rows before are read
abbrev pub invariant-loop-j : goal.invariant-loop-j
invariant-loop-j l = (length l.rows ≡ 8) × ((j : ℕ) → j < l.j → EightWithin 8191 (row_at l.rows j) × ((i : ℕ) → i < 8
    → lane (row_at l.rows j) i ≡ entry l.fn.block j i))
