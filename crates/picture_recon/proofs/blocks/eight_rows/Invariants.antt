use Rattle.std.proofs.Common.{◌≡◌, ℕ, ◌+◌, ◌*◌, ◌<◌, length, get_or}
use Rattle.picture_recon.proofs.blocks.eight_rows.Given as goal

-- the rows above j are taken
abbrev pub invariant-loop-j : goal.invariant-loop-j
invariant-loop-j l =
    (length l.samples ≡ 64)
    × (l.at ≡ l.width * l.j)
    × ((k i : ℕ) → k < l.j → i < 8 → get_or l.samples (8 * k + i) 0 ≡ get_or l.rows (l.width * k + i) 0)
