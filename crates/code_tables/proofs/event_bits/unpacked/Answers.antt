use Rattle.std.proofs.Common.{◌-◌, ◌/◌, ◌%◌, ◌^◌, sym, subst, ◌∙◌, arith}
use mir.Val.{SFits}
use Rattle.std.specs.Prelude.{ℤ}
use Rattle.std.specs.Int.{w8}
use Rattle.std.proofs.lemmas.Int.{to_z-of_z}
use Rattle.code_tables.proofs.PackedEvents.{packed_event, row_word}
use Rattle.code_tables.proofs.SeenEvents.{word_read, signed_fits}
use Rattle.code_tables.proofs.event_bits.unpacked.Goals as goal

pub returns : goal.returns
returns c =
    let packed = c.args.packed in
    let row = row_word c.args.seen packed c.requires.event in
    let fits : SFits w8 c.with_sign.result = subst (λ (z : ℤ). SFits w8 z) (sym c.with_sign.ensures)
    (signed_fits (c.args.seen / 2 ^ (12 - packed % 16) % 2) (packed / 2048) (omega (arith, c.requires.small))) in
    λ b enough is. record {
      few = omega (arith, row.short);
      read = word_read b (packed_event packed) (packed % 16) c.args.seen _ row.short row.word enough is
          (to_z-of_z w8 c.with_sign.result fits ∙ c.with_sign.ensures);
    }
