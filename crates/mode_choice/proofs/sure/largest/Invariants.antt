use Rattle.std.proofs.Common.{ℕ, ◌<◌, ◌≤◌, get_or, pos, unsigned_abs}
use Rattle.mode_choice.proofs.sure.largest.Given as goal

-- none before place `at` is larger
abbrev pub invariant-loop-at : goal.invariant-loop-at
invariant-loop-at l = record {
  each : (k : ℕ) → k < l.at → unsigned_abs (get_or l.sixteenths k (pos 0)) ≤ l.largest;
  most : l.largest ≤ 32768;
}
