use Rattle.std.proofs.Common.{◌≡◌, ℕ, ◌*◌, ◌<◌, length, pos, slice_index_or}
use Rattle.idct8.proofs.lines.column.Given as goal

-- the numbers above j are taken
abbrev pub invariant-loop-j : goal.invariant-loop-j
invariant-loop-j l = (length l.column ≡ 8) × ((k : ℕ) → k < l.j → slice_index_or l.column k (pos 0)
    ≡ slice_index_or l.fn.block (8 * k) (pos 0))
