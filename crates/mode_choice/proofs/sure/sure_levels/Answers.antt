-- Where no rest is near a step, the levels of the bracketed coefficients are the exact ones.
use Rattle.std.proofs.Common.{◌≡◌, ◌∙◌, ap, arith, sym, subst, ℕ, ◌+◌, ◌*◌, ◌<◌, ℤ, pos, get_or, length, length-set, slice_set, get_or-set_same, get_or-set_other, below_more, to_z, of_z, w16}
use Rattle.std.specs.Prelude.{All}
use Rattle.std.proofs.lemmas.List.Elements.{All-set, All-replicate}
use Rattle.h263_types.specs.Blocks.{IsLevel}
use Rattle.idct8.specs.Near.{IsBracketed}
use Rattle.quantiser.specs.Factors.{IsWord}
use Rattle.mode_choice.specs.Walk.{level_by}
use Rattle.mode_choice.proofs.Levels.{level_kept}
use Rattle.mode_choice.proofs.Sixteenths.{rest_small, sure_level}
use Rattle.mode_choice.proofs.Walk.{word_kept, zero_level}
use Rattle.mode_choice.proofs.sure.sure_levels.Goals as goal

pub loop-at-init : goal.loop-at-init
loop-at-init c = record {
  long = ap length c.requires.zeros;
  few = omega arith;
  stand = λ sure k f less. absurd (omega (arith, less));
  range = subst (All IsLevel) (sym c.requires.zeros) (All-replicate IsLevel 64 (pos 0) zero_level);
}

pub loop-at-preserved : goal.loop-at-preserved
loop-at-preserved c =
    let at : ℕ = c.loop-at.at in
    let inv = c.loop-at.invariant in
    let below : at < 64 = omega (arith, c.loop-at-test.true) in
    let room : at < length c.loop-at.levels = omega (arith, inv.long, below) in
    let quant : ℕ = c.args.quantisation.quant in
    let t : ℤ = get_or c.args.sixteenths.now at (pos 0) in
    let v : ℤ = to_z w16 (of_z w16 c.level_with_rest-level.result.0) in
    let stays : v ≡ c.level_with_rest-level.result.0 =
    level_kept c.level_with_rest-level.result.0 c.level_with_rest-level.ensures.range in
    let word : IsWord t = c.requires.words at (pos 0) (omega (arith, below, c.told-sixteenths)) in
    let same : to_z w16 (of_z w16 t) ≡ t = word_kept t word in
    let rest : c.level_with_rest-level.result.1 < 1024 = subst (λ (n : ℕ). n < 1024)
    (sym c.level_with_rest-level.ensures.rest) (rest_small quant c.half_step-half.result
    (to_z w16 (of_z w16 t)) c.requires.quant) in
    let own : c.max-most.result + 3 < 32 * quant → (f : ℤ) → IsBracketed t f → c.level_with_rest-level.result.0
    ≡ level_by c.args.coding quant f = λ sure f near.
    let less : c.level_with_rest-level.result.1 + 3 < 32 * quant = omega (arith, sure, c.max-most.ensures) in
    sure_level c.settled.ensures c.args.coding quant c.half_step-half.result
    (to_z w16 (of_z w16 t)) c.level_with_rest-level.result.0 f c.half_step-half.ensures c.requires.quant
    (subst (λ (z : ℤ). IsBracketed z f) (sym same) near) (c.level_with_rest-level.ensures.level)
    (c.rest_settles.ensures quant c.half_step-half.result (to_z w16 (of_z w16 t)) c.requires.quant
    (subst (λ (n : ℕ). n + 3 < 32 * quant) c.level_with_rest-level.ensures.rest less)) in
    record {
      long = length-set c.loop-at.levels at v ∙ inv.long;
      few = omega (arith, inv.few, rest, c.max-most.ensures);
      stand = λ sure k f lt near.
          below_more (λ k. (f : ℤ) → IsBracketed (get_or c.args.sixteenths.now k (pos 0)) f
          → get_or (slice_set c.loop-at.levels at v) k (pos 0) ≡ level_by c.args.coding quant f) at
          (λ j hj f near. get_or-set_other c.loop-at.levels at j v (pos 0) (omega (arith, hj))
          ∙ inv.stand (omega (arith, sure, c.max-most.ensures)) j f hj near)
          (λ f near. get_or-set_same c.loop-at.levels at v (pos 0) room ∙ stays ∙ own sure f near)
          k lt f near;
      range = All-set IsLevel c.loop-at.levels at v (subst IsLevel (sym stays) c.level_with_rest-level.ensures.range)
          inv.range;
    }
