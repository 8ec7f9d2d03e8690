use Rattle.std.proofs.Common.{◌≡◌, ◌∙◌, ◌+◌, ◌-◌, ◌*◌, ◌/◌, ap, arith, sym, ℕ, ℤ, min, pos, unsigned_abs, to_z, of_z, w16}
use Rattle.std.proofs.lemmas.Int.{ints}
use Rattle.quantiser.specs.Levels.{signed_of}
use Rattle.quantiser.proofs.Settled.{steps_in_sixteenths}
use Rattle.quantiser.proofs.Values.{kept_level, signed_same}
use Rattle.quantiser.proofs.Words.{word_kept}
use Rattle.quantiser.proofs.coefficients.level_with_rest.Goals as goal

pub returns-clause-level : goal.returns-clause-level
returns-clause-level c =
    let s : ℤ = c.args.sixteenths in
    let size : ℕ = unsigned_abs s in
    let same : to_z w16 (of_z w16 s) ≡ s = word_kept s c.requires.sixteenths in
    let sizes : unsigned_abs (to_z w16 (of_z w16 s)) ≡ size = ap unsigned_abs same in
    let least : c.saturating_sub-least.result ≡ size + 6 - 16 * c.args.half = omega (
      arith,
      sizes,
      c.saturating_sub-least.ensures,
      c.min.ensures,
      c.unsigned_abs.ensures.value,
      c.unsigned_abs.ensures.bound,
    ) in
    kept_level c.signed.result c.signed.ensures.range
    ∙ c.signed.ensures.value
    ∙ signed_same _ _ s c.steps_and_rest-steps.result.0 same (omega (arith, ints, c.steps_and_rest-steps.ensures.most))
    ∙ ap (λ (k : ℕ). signed_of s (pos k))
    (c.steps_and_rest-steps.ensures.steps
    ∙ ap (λ (k : ℕ). min (k / (32 * c.args.quant)) 127) least
    ∙ sym (steps_in_sixteenths c.args.quant c.args.half (size + 6)))
