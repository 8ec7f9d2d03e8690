use Rattle.std.proofs.Common.{◌≡◌, ℕ, ◌<◌, length, get_or, pos, ◌+ℤ◌}
use Rattle.picture_recon.specs.Samples.{limited}
use Rattle.picture_recon.proofs.values.limited_sums_with_one.Given as goal

-- the sums before `at` are limited
abbrev pub invariant-loop-at : goal.invariant-loop-at
invariant-loop-at l =
    (length l.samples ≡ 64)
    × ((k : ℕ) → k < l.at → get_or l.samples k 0 ≡ limited (pos (get_or l.predicted k 0) +ℤ l.number))
