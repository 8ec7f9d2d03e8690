use Rattle.std.proofs.Common.{◌≡◌, ℕ, ◌<◌, ◌≤◌, ◌^◌, length, pos, replicate}
use Rattle.idct8.specs.Passes.{row_sums}
use Rattle.idct8.specs.Vectors.{lane, sum_at, EightWithin}
use Rattle.idct8.specs.declared.passes.Direction.TheVariants.{Inverse}
use Rattle.idct8.proofs.narrow.sums_of_rows.Given as goal

-- the rows above j are summed, and the others are zeros
abbrev pub invariant-loop-j : goal.invariant-loop-j
invariant-loop-j l =
    (length l.sums ≡ 8)
    × ((j : ℕ) → j < l.j → EightWithin (2 ^ 28) (sum_at l.sums j) × ((k : ℕ) → k < 8 → lane (sum_at l.sums j) k
    ≡ row_sums Inverse l.fn.values j k))
    × ((j : ℕ) → l.j ≤ j → j < 8 → sum_at l.sums j ≡ replicate 8 (pos 0))
