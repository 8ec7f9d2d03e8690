use Rattle.std.proofs.Common.{◌∙◌, ℕ, ℤ, pos, List, ap}
use Rattle.std.proofs.lemmas.List.FromFn.{fill_by_all}
use Rattle.h263_types.specs.declared.blocks.Block.{Block}
use Rattle.mode_choice.specs.Choice.{coefficient_at, residual_level_of, residual_levels_of}
use Rattle.mode_choice.proofs.Levels.{no_levels}
use Rattle.mode_choice.proofs.Marked.{none_of_zeros}
use Rattle.mode_choice.proofs.residual.residual_block.Goals as goal

pub transformed-first-requires-clause-zeros : goal.transformed-first-requires-clause-zeros
transformed-first-requires-clause-zeros c = ap (λ (b : Block). b.levels) c.requires.zeros

pub returns-then-are_small-clause-levels : goal.returns-then-are_small-clause-levels
returns-then-are_small-clause-levels c = c.requires.zeros
    ∙ no_levels c.args.quantisation.quant c.args.quantisation.keep c.args.residuals.now
    (c.are_small.ensures c.if-are_small.true)

pub returns-then-are_small-clause-marks : goal.returns-then-are_small-clause-marks
returns-then-are_small-clause-marks c = none_of_zeros c.args.out.now c.requires.zeros

pub returns-clause-levels : goal.returns-clause-levels
unfolding residual_levels_of
returns-clause-levels c =
    let block : List ℤ → Block = λ ls. record { levels = ls } in
    ap block (fill_by_all (λ (k : ℕ). residual_level_of c.args.quantisation.quant c.args.quantisation.keep k
    (coefficient_at c.args.residuals.now k)) c.transformed-first.new.out 64 (pos 0) c.transformed-first.ensures.long
    c.transformed-first.ensures.levels)
