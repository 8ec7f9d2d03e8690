-- What is written of a payload header spells it.
use Rattle.std.proofs.Common.{◌≡◌, ℕ, ◌+◌, ◌*◌, ◌<◌, Bool, true, false, List, [], ◌∷◌, ◌++◌, length, Option, Some, None, Ok, refl, ap, ◌∙◌, append_assoc, arith}
use Rattle.std.proofs.lemmas.List.{append-nil, length-append}
use Rattle.h263_bits.specs.Bits.{spelled, fields}
use Rattle.h263_bits.specs.Syntax.{any, Spells}
use Rattle.h263_bits.proofs.SyntaxLaws.{length-spelled, spells_field, spells_part, spells_whole, spells_done, length-fields}
use Rattle.h263_types.specs.declared.format.Format.{Format}
use Rattle.picture_header.specs.declared.header.Header.{Header}
use Rattle.picture_header.specs.Ranges.{IsHeader}
use Rattle.picture_header.specs.Written.{written_header, written_bits}
use Rattle.picture_header.specs.Laws.{HeaderLaws}
use Rattle.h263_payload.specs.declared.payload.Opening.{Opening}
use Rattle.h263_payload.specs.Text.{payload_opening, leading}
use Rattle.h263_payload.specs.Faults.{payload_at}
use Rattle.h263_payload.specs.Written.{payload_opening_fields, written_payload, payload_bits, padding_of, header_size}
use Rattle.h263_payload.proofs.Exact.{text_read}

-- what is written
abbrev opening_of : ℕ → ℕ → Opening
opening_of plen pebit = record { p = true; v = false; plen = plen; pebit = pebit }

leading_spelt : (plen pebit : ℕ) → plen < 64 → pebit < 8
    → Spells leading (opening_of plen pebit) (fields (payload_opening_fields plen pebit))
unfolding leading payload_opening
leading_spelt plen pebit p q =
    let o = opening_of plen pebit in
    let text = fields (payload_opening_fields plen pebit) in
    let fixed : Spells (payload_opening false) o text =
    spells_field 5 any _ o 0 _ (omega arith) refl (spells_field 1 _ _ o 1 _ (omega arith) refl
    (spells_field 1 any _ o 0 _ (omega arith) refl
    (spells_field 6 any _ o plen _ p refl (spells_field 3 any _ o pebit _ q refl (spells_done o))))) in
    spells_whole leading o _ _ (append-nil text) (spells_part (payload_opening false) any _ o o text [] fixed refl
    (spells_done o))

-- in front of a picture
pub picture_again : HeaderLaws → (format : Format) (at : ℕ) (rest : List Bool)
    → payload_at format (record { at = at; bits = written_payload None ++ true ∷ false ∷ rest })
    ≡ Ok (record { extra = None; begins = true; from = at + length (written_payload None) })
picture_again laws format at rest =
    text_read laws format _ _ (record {
      opening = opening_of 0 0;
      front = written_payload None;
      middle = [];
      coded = true ∷ false ∷ rest;
      parts = refl;
      opened = leading_spelt 0 0 (omega arith) (omega arith);
      extra = (refl, refl);
      begun = (rest, refl);
      begins = refl;
      from = omega arith;
    })

few_bytes : HeaderLaws → (h : Header) → IsHeader h → header_size h < 64
few_bytes laws h ok = omega (arith, laws.short h ok)

-- in front of a later slice
pub slice_again : HeaderLaws → (h : Header) (at : ℕ) (rest : List Bool) → IsHeader h
    → payload_at h.format (record { at = at; bits = written_payload (Some h) ++ true ∷ true ∷ rest })
    ≡ Ok (record { extra = Some h; begins = false; from = at + length (written_payload (Some h)) })
slice_again laws h at rest ok =
    let front = fields (payload_opening_fields (header_size h) (padding_of h)) in
    let padding = spelled (padding_of h) 0 in
    let middle = written_header h ++ padding in
    let len : length middle ≡ length (written_header h) + padding_of h = length-append (written_header h) padding
    ∙ ap (λ (n : ℕ). length (written_header h) + n) (length-spelled (padding_of h) 0) in
    text_read laws h.format _ _ (record {
      opening = opening_of (header_size h) (padding_of h);
      front = front;
      middle = middle;
      coded = true ∷ true ∷ rest;
      parts = append_assoc front middle (true ∷ true ∷ rest);
      opened = leading_spelt (header_size h) (padding_of h) (few_bytes laws h ok) (omega arith);
      extra = (
        written_header h,
        padding,
        refl,
        omega (arith, laws.length h),
        omega (arith, len, laws.length h),
        length-spelled (padding_of h) 0,
        laws.spelt h ok,
      );
      begun = (rest, refl);
      begins = refl;
      from = ap (λ (n : ℕ). at + n) (length-append front middle);
    })

pub length-written_payload : HeaderLaws → (extra : Option Header) → length (written_payload extra) ≡ payload_bits extra
length-written_payload laws None = length-fields (payload_opening_fields 0 0)
length-written_payload laws (Some h) =
    let front = fields (payload_opening_fields (header_size h) (padding_of h)) in
    let padding = spelled (padding_of h) 0 in
    let whole : 8 * header_size h ≡ written_bits h + padding_of h = omega arith in
    omega (
      arith,
      length-append front (written_header h ++ padding),
      length-append (written_header h) padding,
      length-spelled (padding_of h) 0,
      laws.length h,
      length-fields (payload_opening_fields (header_size h) (padding_of h)),
      whole,
    )
