use Rattle.std.proofs.Common.{◌≡◌, ℕ, ◌<◌, length, map, w16, to_z}
use Rattle.idct8.specs.Transform.{entry}
use Rattle.idct8.specs.Vectors.{lane}
use Rattle.idct8.proofs.lines.store_in_each_row.Given as goal

-- the rows above r are stored
abbrev pub invariant-loop-r : goal.invariant-loop-r
invariant-loop-r l = (length l.out ≡ 64) × ((j k : ℕ) → j < l.r → k < 8
    → entry l.out j k ≡ lane (map (to_z w16) l.fn.v) k)
