use Rattle.std.proofs.Common.{◌≡◌, ℕ, ◌<◌, length, pos, slice_index_or}
use Rattle.idct8.proofs.narrow.narrowed.Given as goal

-- the numbers before are taken
abbrev pub invariant-loop-at : goal.invariant-loop-at
invariant-loop-at l = (length l.narrow ≡ 64) × ((k : ℕ) → k < l.at → slice_index_or l.narrow k (pos 0)
    ≡ slice_index_or l.numbers k (pos 0))
