-- The first bits of a picture and of a later slice, and the picture header that is copied.
use Rattle.std.proofs.Common.{◌≡◌, ℕ, suc, ◌+◌, ◌*◌, ◌/◌, ◌%◌, ◌^◌, ◌<◌, ◌≤◌, inl, inr, Bool, true, false, List, [], ◌∷◌, ◌++◌, length, take, drop, get_or, Option, Some, None, Ok, refl, sym, ap, ◌∙◌, append_assoc, append-nil, arith}
use Rattle.std.specs.Prelude.{◌==◌, nat_le, All}
use Rattle.std.proofs.Math.Seq.{drop-cons}
use Rattle.std.proofs.lemmas.Bool.{cases_lt, cases_eq, eqb-true, eqb-false, eq-eqb, ne_eqb, le-leb}
use Rattle.std.proofs.lemmas.List.{length-append, length-take-le, take-append-drop, take_at}
use Rattle.std.proofs.lemmas.Nat.{div-add-mod', pow_pos}
use Rattle.std.proofs.Math.Nat.{mod-lt}
use Rattle.h263_types.specs.declared.format.Format.{Format}
use Rattle.h263_types.specs.declared.blocks.Mb.{Mb}
use Rattle.h263_bits.specs.declared.fault.FaultKind.{FaultKind}
use Rattle.h263_bits.specs.Bits.{is_set, spelled, bits_of}
use Rattle.h263_bits.specs.Syntax.{only, Spells, reading}
use Rattle.h263_bits.specs.Written.{to_byte}
use Rattle.h263_bits.proofs.SyntaxLaws.{only_other, length-spelled, length-bits_of, bits_of-append, bits_of-take, spelled-append, complete}
use Rattle.picture_header.specs.declared.header.Header.{Header}
use Rattle.picture_header.specs.Text.{opening, header, IsHeaderText}
use Rattle.picture_header.specs.Laws.{HeaderLaws}
use Rattle.rtp_header.specs.Text.{from_byte}
use Rattle.h263_payload.specs.Text.{IsExtra, IsStartCodeRest}
use Rattle.slice_layer.specs.Head.{place, later_head}
use Rattle.slice_layer.specs.Text.{IsSliceText}
use Rattle.payload_join.specs.Packet.{Extra}
use Rattle.payload_join.specs.Outgoing.{padded_bytes, copied, header_copied, begins_picture}

-- ---- the first two bits

only_is : (value v : ℕ) (kind : FaultKind) → only value kind v ≡ None → v ≡ value
only_is value v kind e = elim (cases_eq v value) [
  | inl same ↦ same
  | inr other ↦ absurd (none (sym (only_other value v kind other) ∙ e))
]
  where
    none : (Some kind ≡ None) → ⊥
    none p = cc

pub header_begun : (format : Format) (h : Header) (text : List Bool) → IsHeaderText format h text
    → (rest : List Bool) × (text ≡ true ∷ false ∷ rest)
unfolding header opening Spells spelled
header_begun format h text is =
    let low = is.4 in
    let start : low.0 ≡ 32 = only_is 32 low.0 _ low.3 in
    let first : is.1 ≡ spelled 6 32 ++ low.1 = low.4 ∙ ap (λ (v : ℕ). spelled 6 v ++ low.1) start in
    (_, is.3 ∙ ap (λ (t : List Bool). t ++ is.2) first)

pub later_begun : (h : Header) (first : ℕ) (mbs : List Mb) (bits : List Bool) → IsSliceText h false first mbs bits
    → IsStartCodeRest false bits
unfolding later_head place Spells spelled
later_begun h first mbs bits is =
    let at = is.opened.4 in
    let start : at.0 ≡ 1 = only_is 1 at.0 _ at.3 in
    let next = at.5 in
    let sepb1 : next.0 ≡ 1 = only_is 1 next.0 _ next.3 in
    let one : at.1 ≡ spelled 1 1 ++ next.1 = next.4 ∙ ap (λ (v : ℕ). spelled 1 v ++ next.1) sepb1 in
    let both : is.opened.1 ≡ spelled 1 1 ++ (spelled 1 1 ++ next.1) = at.4 ∙ (λ i. spelled 1 (start i) ++ one i) in
    (_, is.parts ∙ ap (λ (t : List Bool). t ++ is.after) (is.opened.3 ∙ ap (λ (t : List Bool). t ++ is.opened.2) both))

-- ---- the bytes of a picture header, padded

-- some bits of zero after a text
record IsPadded (e : Extra) (text : List Bool) (bits : ℕ) : Type 0 where
  padding : List Bool
  whole : bits_of e.bytes ≡ text ++ padding
  count : length padding ≡ e.pebit
  pebit : e.pebit < 8
  bytes : 8 * length e.bytes ≡ bits + e.pebit

-- the bytes that the first bits fill hold these bits
fill : (coded : List ℕ) (text rest : List Bool) → bits_of coded ≡ text ++ rest → length text ≤ 8 * length coded
fill coded text rest e = omega (arith, length-bits_of coded, ap length e, length-append text rest)

whole_bytes : (coded : List ℕ) (n : ℕ) (text rest : List Bool) → bits_of coded ≡ text ++ rest → length text ≡ n
    → n % 8 ≡ 0 → IsPadded (padded_bytes n coded) text n
whole_bytes coded n text rest e len whole =
    let t : (n % 8 == 0) ≡ true = eq-eqb (n % 8) 0 whole in
    let few : n / 8 ≤ length coded = omega (arith, fill coded text rest e, len) in
    let all : 8 * (n / 8) ≡ n = omega arith in
    let some : (padded_bytes n coded).bytes ≡ take (n / 8) coded ++ [] = rw t refl in
    let bytes : (padded_bytes n coded).bytes ≡ take (n / 8) coded = some ∙ append-nil (take (n / 8) coded) in
    let none : (padded_bytes n coded).pebit ≡ 0 = omega arith in
    record {
      padding = [];
      whole = ap bits_of bytes ∙ bits_of-take (n / 8) coded few ∙ ap (λ (k : ℕ). take k (bits_of coded)) all
          ∙ ap (take n) e ∙ take_at text rest n len ∙ sym (append-nil text);
      count = sym none;
      pebit = omega (arith, none);
      bytes = omega (arith, none, ap length bytes, length-take-le (n / 8) coded few);
    }

-- a byte as its first bits and the others
byte_parts : (b r t : ℕ) → r + t ≡ 8 → spelled 8 b ≡ spelled r (b / 2 ^ t) ++ spelled t (b % 2 ^ t)
byte_parts b r t e =
    ap (λ (v : ℕ). spelled 8 v) (sym (div-add-mod' b (2 ^ t)))
    ∙ ap (λ (k : ℕ). spelled k (b / 2 ^ t * 2 ^ t + b % 2 ^ t)) (sym e)
    ∙ spelled-append r t (b / 2 ^ t) (b % 2 ^ t) (mod-lt b (pow_pos t))

-- the other bits are cleared
cleared_parts : (b r t : ℕ) → r + t ≡ 8 → spelled 8 (b / 2 ^ t * 2 ^ t) ≡ spelled r (b / 2 ^ t) ++ spelled t 0
cleared_parts b r t e =
    let zero : b / 2 ^ t * 2 ^ t ≡ b / 2 ^ t * 2 ^ t + 0 = omega arith in
    ap (λ (v : ℕ). spelled 8 v) zero ∙ ap (λ (k : ℕ). spelled k (b / 2 ^ t * 2 ^ t + 0)) (sym e)
    ∙ spelled-append r t (b / 2 ^ t) 0 (pow_pos t)

part_bytes : (coded : List ℕ) (n : ℕ) (text rest : List Bool) → bits_of coded ≡ text ++ rest → length text ≡ n
    → 0 < n % 8 → IsPadded (padded_bytes n coded) text n
unfolding bits_of
part_bytes coded n text rest e len part =
    let q : ℕ = n / 8 in
    let r : ℕ = n % 8 in
    let t : ℕ = to_byte n in
    let b : ℕ = get_or coded q 0 in
    let eight : r + t ≡ 8 = omega arith in
    let some : (n % 8 == 0) ≡ false = ne_eqb (n % 8) 0 (omega arith) in
    let there : q < length coded = omega (arith, fill coded text rest e, len) in
    let front : List Bool = bits_of (take q coded) in
    let many : length (take q coded) ≡ q = length-take-le q coded (omega arith) in
    let after : List Bool = spelled t (b % 2 ^ t) ++ bits_of (drop (suc q) coded) in
    let cut : coded ≡ take q coded ++ (b ∷ drop (suc q) coded) = sym (take-append-drop q coded)
    ∙ ap (λ (l : List ℕ). take q coded ++ l) (drop-cons coded q 0 there) in
    let spelt : bits_of coded ≡ front ++ (spelled 8 b ++ bits_of (drop (suc q) coded)) = ap bits_of cut
    ∙ bits_of-append (take q coded) (b ∷ drop (suc q) coded) in
    let parted : bits_of coded ≡ (front ++ spelled r (b / 2 ^ t)) ++ after =
    spelt ∙ ap (λ (x : List Bool). front ++ (x ++ bits_of (drop (suc q) coded))) (byte_parts b r t eight)
    ∙ regroup front (spelled r (b / 2 ^ t)) (spelled t (b % 2 ^ t)) (bits_of (drop (suc q) coded)) in
    let long : length (front ++ spelled r (b / 2 ^ t)) ≡ n = omega (
      arith,
      length-append front (spelled r (b / 2 ^ t)),
      length-bits_of (take q coded),
      many,
      length-spelled r (b / 2 ^ t),
    ) in
    let text_is : front ++ spelled r (b / 2 ^ t) ≡ text =
    sym (take_at (front ++ spelled r (b / 2 ^ t)) after n long) ∙ ap (take n) (sym parted ∙ e)
    ∙ take_at text rest n len in
    let bytes : (padded_bytes n coded).bytes ≡ take q coded ++ (b / 2 ^ t * 2 ^ t ∷ []) = rw some refl in
    let filled : bits_of (padded_bytes n coded).bytes ≡ front ++ (spelled 8 (b / 2 ^ t * 2 ^ t) ++ []) =
    ap bits_of bytes ∙ bits_of-append (take q coded) (b / 2 ^ t * 2 ^ t ∷ []) in
    record {
      padding = spelled t 0;
      whole = filled ∙ ap (λ (x : List Bool). front ++ x) (append-nil (spelled 8 (b / 2 ^ t * 2 ^ t))
          ∙ cleared_parts b r t eight)
          ∙ sym (append_assoc front (spelled r (b / 2 ^ t)) (spelled t 0))
          ∙ ap (λ (x : List Bool). x ++ spelled t 0) text_is;
      count = length-spelled t 0;
      pebit = omega arith;
      bytes = omega (arith, ap length bytes, length-append (take q coded) (b / 2 ^ t * 2 ^ t ∷ []), many, eight);
    }
  where
    regroup : (a b c d : List Bool) → a ++ ((b ++ c) ++ d) ≡ (a ++ b) ++ (c ++ d)
    regroup a b c d = simp append_assoc

is_padded : (coded : List ℕ) (text rest : List Bool) → bits_of coded ≡ text ++ rest
    → IsPadded (padded_bytes (length text) coded) text (length text)
is_padded coded text rest e = elim (cases_lt 0 (length text % 8)) [
  | inl some ↦ part_bytes coded (length text) text rest e refl some
  | inr none ↦ whole_bytes coded (length text) text rest e refl (omega arith)
]

-- ---- the header that is copied

-- the bytes of a header that begins these bytes, as an extra header
pub record IsCopy (format : Format) (h : Header) (coded : List ℕ) (e : Extra) : Type 0 where
  pub found : header_copied format coded ≡ Some e
  pub is : IsExtra format (length e.bytes) e.pebit (Some h) (bits_of e.bytes)
  pub few : length e.bytes < 64
  pub bits : e.pebit < 8

some_extra : Extra → Option Extra
some_extra e = Some e

pub is_copy : HeaderLaws → (format : Format) (h : Header) (coded : List ℕ) (text rest : List Bool)
    → IsHeaderText format h text → bits_of coded ≡ text ++ rest → length text ≤ 8 * 63
    → IsCopy format h coded (padded_bytes (length text) coded)
unfolding header_copied some_extra
is_copy laws format h coded text rest is e short =
    let begun = header_begun format h text is in
    let some : 0 < length text = omega (arith, ap length begun.1) in
    let p = is_padded coded text rest e in
    let read : reading (header format) (from_byte 0 coded) ≡ Ok (h, record { at = 0 + length text; bits = rest }) =
    ap (λ (t : List Bool). reading (header format) (record { at = 0; bits = t })) e
    ∙ complete (header format) h text rest 0 (laws.productive format) is in
    let fits : nat_le (0 + length text) (8 * 63) ≡ true = le-leb (0 + length text) (8 * 63) (omega arith) in
    let taken : copied coded (Ok (h, record { at = 0 + length text; bits = rest }))
    ≡ some_extra (padded_bytes (0 + length text) coded) = rw fits refl in
    let at : 0 + length text ≡ length text = omega arith in
    record {
      found = ap (copied coded) read ∙ taken ∙ ap (λ (n : ℕ). some_extra (padded_bytes n coded)) at;
      is = (
        text,
        p.padding,
        p.whole,
        omega (arith, p.bytes, some),
        length-bits_of (padded_bytes (length text) coded).bytes,
        p.count,
        is,
      );
      few = omega (arith, p.bytes, p.pebit);
      bits = p.pebit;
    }

-- ---- what begins a picture

pub begins_is : (part more : List ℕ) (rest : List Bool) → All (λ byte. byte < 256) part
    → bits_of part ≡ true ∷ false ∷ rest → begins_picture (part ++ more) ≡ true
unfolding bits_of spelled
begins_is [] more rest all e = absurd cc
begins_is (b ∷ part) more rest all e =
    let one : is_set b 7 ≡ true = cc in
    let none : is_set b 6 ≡ false = cc in
    let high = eqb-true (b / 2 ^ 7 % 2) 1 one in
    let low = eqb-false (b / 2 ^ 6 % 2) 1 none in
    let small : b < 256 = all 0 b (omega arith) in
    eq-eqb (b / 64) 2 (omega (arith, high, low))
