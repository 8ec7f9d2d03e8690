use Rattle.std.proofs.Common.{◌≡◌, ◌-◌, ◌/◌, ◌%◌, ◌^◌, ℕ, sym, subst, ◌∙◌, arith}
use mir.Val.{SFits}
use Rattle.std.specs.Prelude.{ℤ}
use Rattle.std.specs.Int.{w8}
use Rattle.std.proofs.lemmas.Int.{to_z-of_z}
use Rattle.code_tables.specs.Seen.{IsMagnitudeIn}
use Rattle.code_tables.proofs.SeenEvents.{signed_fits}
use Rattle.code_tables.proofs.SeenDifferences.{zero_read, signed_read}
use Rattle.code_tables.proofs.difference_bits.seen_magnitude.Goals as goal

pub returns-then-size-eq0 : goal.returns-then-size-eq0
returns-then-size-eq0 c = λ b enough is.
    let none : c.args.size ≡ 0 = omega (arith, c.if-size-eq0.true) in
    record {
      few = omega (arith, c.requires.len);
      read = zero_read b c.args.seen c.args.len (subst (λ (k : ℕ). IsMagnitudeIn c.args.seen k c.args.len) none
          c.requires.word) enough is;
    }

pub returns : goal.returns
returns c =
    let some : c.args.size ≡ 0 → ⊥ = λ e. omega (arith, e, c.if-size-eq0.false) in
    let sign = c.args.seen / 2 ^ (12 - c.args.len) % 2 in
    let fits : SFits w8 c.with_sign.result = subst (λ (z : ℤ). SFits w8 z) (sym c.with_sign.ensures)
    (signed_fits sign c.args.size (omega (arith, c.requires.size))) in
    λ b enough is. record {
      few = omega (arith, c.requires.len);
      read = signed_read b c.args.seen c.args.size c.args.len _ c.requires.len c.requires.size some c.requires.word
          enough is (to_z-of_z w8 c.with_sign.result fits ∙ c.with_sign.ensures);
    }
