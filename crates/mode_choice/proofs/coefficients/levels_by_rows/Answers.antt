use Rattle.std.proofs.Common.{◌≡◌, ◌∙◌, ap, arith, refl, subst, sym, ℕ, ◌<◌, ℤ, pos, get_or, length, length-set, to_z, of_z, w16}
use Rattle.std.proofs.lemmas.List.Elements.{All-set, All-replicate}
use Rattle.h263_types.specs.Blocks.{IsLevel}
use Rattle.mode_choice.specs.Walk.{level_by}
use Rattle.mode_choice.proofs.Levels.{level_kept}
use Rattle.mode_choice.proofs.Walk.{same_level, word_kept, zero_level}
use Rattle.mode_choice.proofs.coefficients.levels_by_rows.Goals as goal

pub loop-at-init : goal.loop-at-init
loop-at-init c = record {
  long = refl;
  stand = λ k h. absurd (omega (arith, h));
  range = All-replicate IsLevel 64 (pos 0) zero_level;
}

pub loop-at-preserved : goal.loop-at-preserved
loop-at-preserved c =
    let at : ℕ = c.loop-at.at in
    let inv = c.loop-at.invariant in
    let f : ℕ → ℤ = λ k. level_by c.args.coding c.args.quantisation.quant (get_or c.args.coefficients.now k (pos 0)) in
    let below : at < 64 = omega (arith, c.loop-at-test.true) in
    let v : ℤ = to_z w16 (of_z w16 c.level.result) in
    let same = level_kept c.level.result c.level.ensures.range in
    let word : ℤ = get_or c.limited_by_rows-limited.result at (pos 0) in
    let is : v ≡ f at =
    same ∙ c.level.ensures.level
    ∙ ap (level_by c.args.coding c.args.quantisation.quant)
    (word_kept word (c.limited_by_rows-limited.ensures.range at (pos 0)
    (omega (arith, c.limited_by_rows-limited.ensures.long, below)))
    ∙ c.limited_by_rows-limited.ensures.limited at below)
    ∙ same_level c.limited_coefficients.ensures c.args.coding c.args.quantisation.quant
    (get_or c.args.coefficients.now at (pos 0)) c.requires.quant in
    let room : at < length c.loop-at.levels = omega (arith, inv.long, below) in
    record {
      long = length-set c.loop-at.levels at v ∙ inv.long;
      stand = c.one_more.ensures f c.loop-at.levels at v (pos 0) room is inv.stand;
      range = All-set IsLevel c.loop-at.levels at v (subst IsLevel (sym same) c.level.ensures.range) inv.range;
    }

pub returns-clause-levels : goal.returns-clause-levels
returns-clause-levels c k h = c.loop-at.invariant.stand k (omega (arith, h, c.loop-at-test.false))
