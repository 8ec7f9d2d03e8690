-- How long it is, what stands before a slice's macroblocks.
use Rattle.std.proofs.Common.{◌≡◌, ℕ, ◌+◌, ◌≤◌, Bool, true, false, [], ◌∷◌, ◌++◌, length, Option, Some, None, arith}
use Rattle.std.proofs.lemmas.List.{length-append}
use Rattle.h263_types.specs.declared.format.Format.{Format}
use Rattle.h263_types.specs.declared.format.Format.TheVariants.{SubQcif, Qcif, Cif}
use Rattle.h263_bits.specs.Bits.{fields}
use Rattle.h263_bits.proofs.SyntaxLaws.{length-fields}
use Rattle.picture_header.specs.declared.header.Header.{Header}
use Rattle.picture_header.specs.Ranges.{IsHeader}
use Rattle.picture_header.specs.Written.{reference_fields, reference_bits, written_header, written_bits}
use Rattle.picture_header.specs.Laws.{HeaderLaws}
use Rattle.slice_layer.specs.Head.{address_bits}
use Rattle.slice_layer.specs.Written.{gfid, first_fields, place_fields, tail_text, opening_text}

address_short : (f : Format) → address_bits f ≤ 9
address_short SubQcif = omega arith
address_short Qcif = omega arith
address_short Cif = omega arith

trp_short : (trp : Option ℕ) → reference_bits trp ≤ 10
trp_short None = omega arith
trp_short (Some t) = omega arith

length-reference : (trp : Option ℕ) → length (fields (reference_fields trp)) ≡ 1 + reference_bits trp
length-reference None = length-fields ((1, 0) ∷ [])
length-reference (Some t) = length-fields ((1, 1) ∷ (10, t) ∷ [])

length-tail : (h : Header) → length (tail_text h) ≡ 6 + reference_bits h.trp
length-tail h =
    let front = fields ((2, gfid h) ∷ (1, 0) ∷ []) in
    let reference = fields (reference_fields h.trp) in
    let end = fields ((2, 1) ∷ []) in
    omega (
      arith,
      length-append front (reference ++ end),
      length-append reference end,
      length-fields ((2, gfid h) ∷ (1, 0) ∷ []),
      length-reference h.trp,
      length-fields ((2, 1) ∷ []),
    )

length-first : (h : Header) → length (fields (first_fields h)) ≡ 2 + address_bits h.format
length-first h = omega (arith, length-fields (first_fields h))

length-place : (h : Header) (first : ℕ) → length (fields (place_fields h first)) ≡ 8 + address_bits h.format
length-place h first = omega (arith, length-fields (place_fields h first))

-- how long the opening is after a picture header
pub length-begins : HeaderLaws → (h : Header) (first : ℕ) → length (opening_text h true first)
    ≡ written_bits h + (2 + address_bits h.format)
length-begins laws h first = omega (
  arith,
  length-append (written_header h) (fields (first_fields h)),
  laws.length h,
  length-first h,
)

-- how long that of a later slice is
pub length-later : (h : Header) (first : ℕ) → length (opening_text h false first)
    ≡ 14 + address_bits h.format + reference_bits h.trp
length-later h first = omega (
  arith,
  length-append (fields (place_fields h first)) (tail_text h),
  length-place h first,
  length-tail h,
)

-- it has 262 bits at most
pub opening_short : HeaderLaws → (h : Header) (begins : Bool) (first : ℕ) → IsHeader h
    → length (opening_text h begins first) ≤ 262
opening_short laws h true first is = omega (arith, length-begins laws h first, address_short h.format, laws.short h is)
opening_short laws h false first is = omega (arith, length-later h first, address_short h.format, trp_short h.trp)
