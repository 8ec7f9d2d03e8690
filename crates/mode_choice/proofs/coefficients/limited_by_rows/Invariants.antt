use Rattle.std.proofs.Common.{◌≡◌, ℕ, ◌<◌, length, get_or, pos}
use Rattle.std.specs.Prelude.{All}
use Rattle.quantiser.specs.Factors.{IsWord, limited_to_word}
use Rattle.mode_choice.proofs.coefficients.limited_by_rows.Given as goal

-- the words before place `at` stand
abbrev pub invariant-loop-at : goal.invariant-loop-at
invariant-loop-at l = record {
  long : length l.words ≡ 64;
  stand : (k : ℕ) → k < l.at → get_or l.words k (pos 0) ≡ limited_to_word (get_or l.coefficients k (pos 0));
  range : All IsWord l.words;
}
