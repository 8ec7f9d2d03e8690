use Rattle.std.proofs.Common.{◌≡◌, ◌∙◌, ℕ, min, ℤ, pos, slice_index_or, unsigned_abs, ap, arith, refl, w16, to_z, of_z}
use Rattle.idct8.specs.Sizes.{cut_size}
use Rattle.idct8.specs.Sums.{total}
use Rattle.idct8.proofs.Sizes.{one_more_size}
use Rattle.idct8.proofs.Results.{value_kept}
use Rattle.idct8.proofs.narrow.sizes.Goals as goal

pub loop-at-init : goal.loop-at-init
unfolding total
loop-at-init c = (refl, omega arith)

pub loop-at-preserved : goal.loop-at-preserved
loop-at-preserved c =
    let at = c.loop-at.at in
    let z : ℤ = slice_index_or c.args.values.now at (pos 0) in
    let kept : to_z w16 (of_z w16 z)
    ≡ z = value_kept z (c.requires.values at (pos 0) (omega (arith, c.loop-at-test.true, c.requires.places))) in
    let size : c.unsigned_abs.result ≡ unsigned_abs z = c.unsigned_abs.ensures.value ∙ ap unsigned_abs kept in
    let cut : c.min-sum.result ≡ min (unsigned_abs z) 1023 = c.min-sum.ensures ∙ ap (λ (n : ℕ). min n 1023) size in (
      one_more_size (cut_size c.args.values.now) at c.loop-at.sum c.min-sum.result c.loop-at.invariant.0 cut,
      omega (arith, c.loop-at.invariant.1, cut),
    )

pub returns-clause-value : goal.returns-clause-value
returns-clause-value c =
    let end : c.loop-at.at ≡ c.args.to = omega (arith, c.loop-at-test.false, c.loop-at.auto.at-end) in
    c.loop-at.invariant.0 ∙ ap (λ (n : ℕ). total n (λ k. cut_size c.args.values.now k)) end
