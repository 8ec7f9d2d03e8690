use Rattle.std.proofs.Common.{◌≡◌, ℕ, ◌+◌, ◌*◌, ◌/◌, ◌%◌, ℤ, pos, ◌+ℤ◌, ◌*ℤ◌, get_or, arith, ap, sym, ◌∙◌, subst, lit<}
use Rattle.idct8.specs.Ranges.{Within}
use Rattle.idct8.specs.Transform.{rounded}
use Rattle.h263_types.specs.Blocks.{level_at}
use Rattle.quantiser.specs.Levels.{value_of}
use Rattle.picture_recon.specs.Samples.{limited}
use Rattle.picture_recon.proofs.Kept.{kept, kept_level, kept_number}
use Rattle.picture_recon.proofs.Flat.{number_of_first}
use Rattle.picture_recon.proofs.Walk.{none_later}
use Rattle.picture_recon.proofs.values.inter_samples.Goals as goal

pub returns-then-marks-eq-FIRST_ALONE : goal.returns-then-marks-eq-FIRST_ALONE
returns-then-marks-eq-FIRST_ALONE c = λ y x hy hx.
    let block = c.args.block.now in
    let none = none_later block c.args.marks c.requires.marked c.if-marks-eq-FIRST_ALONE.true in
    let number = number_of_first c.one_order.ensures c.args.quant block none y x hy hx in
    let value = c.value.ensures.value
    ∙ ap (value_of c.args.quant) (kept_level (level_at block 0) (c.requires.block.levels 0 (lit< tt))) in
    c.limited_sums_with_one.ensures (8 * y + x) (omega arith)
    ∙ ap (λ (z : ℤ). limited (pos (get_or c.args.predicted.now (8 * y + x) 0) +ℤ z))
    (kept_number c.number_of_first-number.result c.number_of_first-number.ensures.range
    ∙ c.number_of_first-number.ensures.value
    ∙ ap (λ (z : ℤ). rounded (pos 2048 *ℤ pos 2048 *ℤ z)) (kept c.value.result c.value.ensures.range ∙ value)
    ∙ sym number)

pub limited_sums-requires : goal.limited_sums-requires
limited_sums-requires c = record {
  numbers = λ at h.
      let place : 8 * (at / 8) + at % 8 ≡ at = omega arith in
      subst (λ (k : ℕ). Within 32000 (get_or c.inverse_by_marks.new.values k (pos 0))) place
      (c.inverse_by_marks.ensures.range (at / 8) (at % 8) (omega arith) (omega arith));
}
