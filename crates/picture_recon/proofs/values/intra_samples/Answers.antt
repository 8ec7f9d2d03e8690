use Rattle.std.proofs.Common.{◌≡◌, ℕ, ◌+◌, ◌*◌, ◌/◌, ◌%◌, ℤ, pos, ◌+ℤ◌, get_or, arith, ap, ◌∙◌, subst}
use Rattle.idct8.specs.Ranges.{Within}
use Rattle.h263_types.specs.Blocks.{level_at}
use Rattle.picture_recon.specs.Samples.{limited}
use Rattle.picture_recon.proofs.Kept.{same_dc}
use Rattle.picture_recon.proofs.Flat.{flat}
use Rattle.picture_recon.proofs.Walk.{no_others}
use Rattle.picture_recon.proofs.values.intra_samples.Goals as goal

pub returns-then-marks-eq-FIRST_ALONE : goal.returns-then-marks-eq-FIRST_ALONE
returns-then-marks-eq-FIRST_ALONE c = λ y x hy hx.
    let values = c.args.values.now in
    let dc : ℤ = level_at c.args.block.now 0 in
    flat dc c.requires.dc _ (c.flat-samples.ensures (8 * y + x) (omega arith) ∙ same_dc dc c.requires.dc) _
    (c.zeros_give_zeros.ensures values
    (no_others c.one_order.ensures c.args.marks values c.if-marks-eq-FIRST_ALONE.true c.requires.first
    c.requires.marked) y x)

pub limited_sums-requires : goal.limited_sums-requires
limited_sums-requires c = record {
  numbers = λ at h.
      let place : 8 * (at / 8) + at % 8 ≡ at = omega arith in
      subst (λ (k : ℕ). Within 32000 (get_or c.inverse_by_marks.new.values k (pos 0))) place
      (c.inverse_by_marks.ensures.range (at / 8) (at % 8) (omega arith) (omega arith));
}

pub returns : goal.returns
returns c = λ y x hy hx.
    let dc : ℤ = level_at c.args.block.now 0 in
    c.limited_sums.ensures (8 * y + x) (omega arith)
    ∙ ap (λ (z : ℤ). limited (z +ℤ get_or c.inverse_by_marks.new.values (8 * y + x) (pos 0)))
    (c.flat-samples.ensures (8 * y + x) (omega arith) ∙ same_dc dc c.requires.dc)
    ∙ ap (λ (z : ℤ). limited (dc +ℤ z)) (c.inverse_by_marks.ensures.numbers y x hy hx)
