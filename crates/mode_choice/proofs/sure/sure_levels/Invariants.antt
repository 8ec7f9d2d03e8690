use Rattle.std.proofs.Common.{◌≡◌, ℕ, ◌+◌, ◌*◌, ◌<◌, length, get_or, pos, ℤ}
use Rattle.std.specs.Prelude.{All}
use Rattle.h263_types.specs.Blocks.{IsLevel}
use Rattle.idct8.specs.Near.{IsBracketed}
use Rattle.mode_choice.specs.Walk.{level_by}
use Rattle.mode_choice.proofs.sure.sure_levels.Given as goal

-- where the most that is left is little enough, the levels before place `at` are those of what the sixteenths bracket
abbrev pub invariant-loop-at : goal.invariant-loop-at
invariant-loop-at l = record {
  long : length l.levels ≡ 64;
  few : l.most < 1024;
  stand : l.most + 3 < 32 * l.fn.quantisation.quant → (k : ℕ) (f : ℤ) → k < l.at
      → IsBracketed (get_or l.sixteenths k (pos 0)) f → get_or l.levels k (pos 0)
      ≡ level_by l.fn.coding l.fn.quantisation.quant f;
  range : All IsLevel l.levels;
}
