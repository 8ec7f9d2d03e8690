use Rattle.std.proofs.Common.{◌≡◌, ℕ, ◌<◌, length}
use Rattle.idct8.specs.Transform.{entry}
use Rattle.idct8.specs.Vectors.{lane, row_at}
use Rattle.idct8.proofs.sixteenths.put_rows.Given as goal

-- the rows above j stand
abbrev pub invariant-loop-j : goal.invariant-loop-j
invariant-loop-j l = (length l.out ≡ 64) × ((k i : ℕ) → k < l.j → i < 8 → entry l.out k i ≡ lane (row_at l.fn.r k) i)
