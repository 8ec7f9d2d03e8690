use Rattle.std.proofs.Common.{◌∙◌}
use Rattle.mode_choice.proofs.Empties.{none_in_any}
use Rattle.mode_choice.proofs.residual.are_empty.Goals as goal

pub returns : goal.returns
returns c = c.are_none.ensures
    ∙ none_in_any 6 c.args.blocks.now c.args.marks.now c.told-blocks c.told-marks c.requires.marks
