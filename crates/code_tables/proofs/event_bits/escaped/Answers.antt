use Rattle.std.proofs.Common.{◌≡◌, ◌%◌, sym, subst, ◌∙◌, arith}
use mir.Val.{SFits}
use Rattle.std.specs.Prelude.{ℤ}
use Rattle.std.specs.Int.{w8}
use Rattle.std.proofs.lemmas.Int.{to_z-of_z}
use Rattle.code_tables.proofs.SeenEvents.{escape_read, level_of_fits}
use Rattle.code_tables.proofs.event_bits.escaped.Goals as goal

pub returns : goal.returns
returns c =
    let some : c.args.seen % 256 ≡ 0 → ⊥ = λ e. omega (arith, e, c.if-level-eq0.false) in
    let great : c.args.seen % 256 ≡ 128 → ⊥ = λ e. omega (arith, e, c.if-level-eq128.false) in
    let fits : SFits w8 c.escape_level.result = subst (λ (z : ℤ). SFits w8 z) (sym c.escape_level.ensures)
    (level_of_fits (c.args.seen % 256) (omega arith) great) in
    λ b enough is. record {
      few = omega arith;
      read = escape_read b c.args.seen _ c.requires some great enough is (to_z-of_z w8 c.escape_level.result fits
          ∙ c.escape_level.ensures);
    }
