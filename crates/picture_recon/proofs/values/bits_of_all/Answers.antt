use Rattle.std.proofs.Common.{rules, ◌≡◌, ◌∙◌, ℕ, ℤ, get_or, pos, arith, below_more, w16, to_z, of_z, FitsSigned, ap, sym}
use Rattle.std.proofs.lemmas.Int.{ints, to_z-of_z}
use Rattle.std.proofs.lemmas.Nat.{le_or_l, le_or_r}
use Rattle.picture_recon.proofs.values.bits_of_all.Goals as goal

-- only 0 has no bits
zero : (z : ℤ) (n : ℕ) → FitsSigned w16 z → n ≡ of_z w16 (to_z w16 (of_z w16 z)) → n ≡ 0 → z ≡ pos 0
zero z n fits e f = sym (to_z-of_z w16 z fits) ∙ sym (to_z-of_z w16 (to_z w16 (of_z w16 z)) (omega (arith, ints)))
    ∙ ap (to_z w16) (sym e ∙ f)

pub loop-at-preserved : goal.loop-at-preserved
loop-at-preserved c none =
    let bits : ℕ = c.loop-at.bits in
    let own : ℕ = c.cast_unsigned-bits.result in
    let fits : FitsSigned w16 (get_or c.args.levels c.loop-at.at (pos 0)) = search rules in
    below_more (λ k. get_or c.args.levels k (pos 0) ≡ pos 0) c.loop-at.at
    (c.loop-at.invariant (omega (arith, le_or_l bits own, none)))
    (zero (get_or c.args.levels c.loop-at.at (pos 0)) own fits c.cast_unsigned-bits.ensures
    (omega (arith, le_or_r bits own, none)))
