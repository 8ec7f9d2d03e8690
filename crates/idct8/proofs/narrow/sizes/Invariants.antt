use Rattle.std.proofs.Common.{◌≡◌, ◌*◌, ◌≤◌}
use Rattle.idct8.specs.Sizes.{cut_size}
use Rattle.idct8.specs.Sums.{total}
use Rattle.idct8.proofs.narrow.sizes.Given as goal

-- the sizes before are added up
abbrev pub invariant-loop-at : goal.invariant-loop-at
invariant-loop-at l = (l.sum ≡ total l.at (λ k. cut_size l.values k)) × (l.sum ≤ 1023 * l.at)
