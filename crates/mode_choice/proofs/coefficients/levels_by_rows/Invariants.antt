use Rattle.std.proofs.Common.{◌≡◌, ℕ, ◌<◌, length, get_or, pos}
use Rattle.std.specs.Prelude.{All}
use Rattle.h263_types.specs.Blocks.{IsLevel}
use Rattle.mode_choice.specs.Walk.{level_by}
use Rattle.mode_choice.proofs.coefficients.levels_by_rows.Given as goal

-- the levels before place `at` stand
abbrev pub invariant-loop-at : goal.invariant-loop-at
invariant-loop-at l = record {
  long : length l.levels ≡ 64;
  stand : (k : ℕ) → k < l.at → get_or l.levels k (pos 0)
      ≡ level_by l.coding l.quantisation.quant (get_or l.coefficients k (pos 0));
  range : All IsLevel l.levels;
}
