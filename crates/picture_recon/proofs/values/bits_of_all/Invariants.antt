use Rattle.std.proofs.Common.{◌≡◌, ℕ, ◌<◌, get_or, pos}
use Rattle.picture_recon.proofs.values.bits_of_all.Given as goal

-- those before place `at` have no other bits
abbrev pub invariant-loop-at : goal.invariant-loop-at
invariant-loop-at l = l.bits ≡ 0 → (k : ℕ) → k < l.at → get_or l.levels k (pos 0) ≡ pos 0
