use Rattle.std.proofs.Common.{◌≡◌, ℕ, ◌<◌, length, get_or, pos}
use Rattle.picture_recon.specs.Undrawn.{level_by_byte}
use Rattle.picture_recon.proofs.undrawn.levels_of.Given as goal

-- the levels before k stand
abbrev pub invariant-loop-k : goal.invariant-loop-k
invariant-loop-k l = (length l.levels ≡ 64) × ((k : ℕ) → k < l.k → get_or l.levels k (pos 0)
    ≡ level_by_byte 1 (get_or l.bytes k 0))
