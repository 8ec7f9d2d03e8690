use Rattle.std.proofs.Common.{◌≡◌, ℕ, ◌+◌, ◌*◌, ◌<◌, ◌/◌, ◌%◌, length, get_or, pos}
use Rattle.mode_choice.proofs.samples.put_rows.Given as goal

-- the rows above j stand
abbrev pub invariant-loop-j : goal.invariant-loop-j
invariant-loop-j l =
    (length l.samples ≡ 64)
    × (l.at ≡ 0 + l.width * l.j)
    × ((k : ℕ) → k < 64 → k / 8 < l.j → get_or l.samples k (pos 0)
    ≡ pos (get_or l.rows (0 + l.width * (k / 8) + k % 8) 0))
