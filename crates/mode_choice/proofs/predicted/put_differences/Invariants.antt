use Rattle.std.proofs.Common.{◌≡◌, ℕ, ◌+◌, ◌*◌, ◌<◌, ◌/◌, ◌%◌, length, get_or, pos, ◌-ℤ◌}
use Rattle.mode_choice.proofs.predicted.put_differences.Given as goal

-- the rows above j stand
abbrev pub invariant-loop-j : goal.invariant-loop-j
invariant-loop-j l =
    (length l.residuals ≡ 64)
    × (l.above ≡ 0 + l.width * l.j)
    × (l.at ≡ l.fn.from + l.stride * l.j)
    × ((k : ℕ) → k < 64 → k / 8 < l.j →
    get_or l.residuals k (pos 0)
    ≡ (pos (get_or l.rows (0 + l.width * (k / 8) + k % 8) 0) -ℤ pos
    (get_or l.predicted (l.fn.from + l.stride * (k / 8) + k % 8) 0)))
