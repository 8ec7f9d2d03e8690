use Rattle.std.proofs.Common.{◌≡◌, ℕ, ◌<◌, length, get_or}
use Rattle.h263_types.specs.Blocks.{level_at}
use Rattle.picture_recon.specs.Undrawn.{byte_of_level}
use Rattle.picture_recon.proofs.undrawn.bytes_of.Given as goal

-- the bytes before k stand
abbrev pub invariant-loop-k : goal.invariant-loop-k
invariant-loop-k l = (length l.bytes ≡ 64) × ((k : ℕ) → k < l.k
    → get_or l.bytes k 0 ≡ byte_of_level (level_at l.block k))
