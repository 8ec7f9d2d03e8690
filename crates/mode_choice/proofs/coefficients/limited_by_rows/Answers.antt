use Rattle.std.proofs.Common.{◌≡◌, ◌∙◌, refl, ℕ, ◌<◌, ℤ, pos, ap, arith, sym, subst, get_or, length, length-set, to_z, of_z, w16}
use Rattle.std.proofs.lemmas.List.Elements.{All-set, All-replicate}
use Rattle.quantiser.specs.Factors.{IsWord, limited_to_word}
use Rattle.mode_choice.proofs.Levels.{coefficient_kept}
use Rattle.mode_choice.proofs.Walk.{word_kept, zero_word}
use Rattle.mode_choice.proofs.coefficients.limited_by_rows.Goals as goal

pub loop-at-init : goal.loop-at-init
loop-at-init c = record {
  long = refl;
  stand = λ k h. absurd (omega (arith, h));
  range = All-replicate IsWord 64 (pos 0) zero_word;
}

pub loop-at-preserved : goal.loop-at-preserved
loop-at-preserved c =
    let at : ℕ = c.loop-at.at in
    let inv = c.loop-at.invariant in
    let f : ℕ → ℤ = λ k. limited_to_word (get_or c.args.coefficients.now k (pos 0)) in
    let below : at < 64 = omega (arith, c.loop-at-test.true) in
    let v : ℤ = to_z w16 (of_z w16 c.limited.result) in
    let same = word_kept c.limited.result c.limited.ensures.range in
    let is : v ≡ f at = same ∙ c.limited.ensures.value
    ∙ ap limited_to_word (coefficient_kept (get_or c.args.coefficients.now at (pos 0)) (c.requires at below)) in
    let room : at < length c.loop-at.words = omega (arith, inv.long, below) in
    record {
      long = length-set c.loop-at.words at v ∙ inv.long;
      stand = c.one_more.ensures f c.loop-at.words at v (pos 0) room is inv.stand;
      range = All-set IsWord c.loop-at.words at v (subst IsWord (sym same) c.limited.ensures.range) inv.range;
    }

pub returns-clause-limited : goal.returns-clause-limited
returns-clause-limited c k h = c.loop-at.invariant.stand k (omega (arith, h, c.loop-at-test.false))
