use Rattle.std.proofs.Common.{◌∙◌, ap, List, ℤ, pos, get_or, nat_lt}
use Rattle.std.proofs.lemmas.List.{get_or-replicate}
use Rattle.mode_choice.specs.Walk.{kept_level, standing_place, level_by}
use Rattle.mode_choice.specs.declared.order.Standing.TheVariants.{ByColumns}
use Rattle.mode_choice.proofs.Levels.{kept_nothing}
use Rattle.mode_choice.proofs.Marked.{none_in_zeros}
use Rattle.mode_choice.proofs.Walk.{place_below}
use Rattle.mode_choice.proofs.sure.sure_levels_in.Goals as goal

pub returns-then-have_none-clause-levels : goal.returns-then-have_none-clause-levels
returns-then-have_none-clause-levels c sure k f less near =
    ap (λ (zeros : List ℤ). get_or zeros k (pos 0)) c.requires.zeros
    ∙ get_or-replicate 64 k (pos 0) (pos 0) less
    ∙ kept_nothing (nat_lt k c.args.quantisation.keep) (level_by c.args.coding c.args.quantisation.quant f)
    (c.have_none.ensures c.if-have_none.true (standing_place ByColumns k) f (place_below ByColumns k) near)

pub returns-then-have_none-clause-marks : goal.returns-then-have_none-clause-marks
returns-then-have_none-clause-marks c = none_in_zeros c.args.out.now c.requires.zeros

pub returns-clause-marks : goal.returns-clause-marks
returns-clause-marks c = none_in_zeros c.args.out.now c.requires.zeros

pub returns-then-sure-clause-levels : goal.returns-then-sure-clause-levels
returns-then-sure-clause-levels c sure k f less near =
    c.put_in_order-marks.ensures.levels k less
    ∙ ap (kept_level c.args.quantisation.keep k) (c.sure_levels-sure.ensures.levels c.if-sure.true
    (standing_place ByColumns k) f (place_below ByColumns k) near)
