use Rattle.std.proofs.Common.{◌≡◌, ℕ, ◌<◌, length}
use Rattle.std.specs.Int.{int_shr}
use Rattle.idct8.specs.Transform.{entry}
use Rattle.idct8.specs.Vectors.{lane, sum_at}
use Rattle.idct8.proofs.narrow.store_rounded.Given as goal

-- the rows above r are done
abbrev pub invariant-loop-r : goal.invariant-loop-r
invariant-loop-r l = (length l.out ≡ 64) × ((j k : ℕ) → j < l.r → k < 8
    → entry l.out j k ≡ int_shr (lane (sum_at l.fn.s j) k) 25)
