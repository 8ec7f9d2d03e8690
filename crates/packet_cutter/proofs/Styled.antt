-- The cut depends on the header's style alone.
use Rattle.std.proofs.Common.{◌≡◌, ℕ, ◌+◌, ◌*◌, ◌/◌, ◌<◌, Bool, true, false, Option, Some, None, List, [], ◌∷◌, ◌++◌, length, refl, ap, subst, ◌∙◌, arith}
use Rattle.std.specs.Prelude.{is_some}
use Rattle.std.proofs.lemmas.List.{length-append}
use Rattle.h263_types.specs.declared.Kind.{Kind}
use Rattle.h263_types.specs.declared.format.Format.{Format}
use Rattle.h263_types.specs.declared.blocks.Mb.{Mb}
use Rattle.h263_bits.specs.Written.{to_byte}
use Rattle.picture_header.specs.declared.header.Header.{Header}
use Rattle.picture_header.specs.Written.{reference_bits}
use Rattle.h263_payload.specs.Written.{payload_bits}
use Rattle.slice_layer.specs.Around.{around}
use Rattle.slice_layer.specs.Head.{address_bits}
use Rattle.slice_layer.specs.Written.{opening_text, mbs_text, slice_text, bytes_filled_by}
use Rattle.slice_layer.specs.Laws.{AreSlicesShort}
use Rattle.packet_cutter.specs.Cut.{begins_at, extra_of, front_bytes, packet_bytes, IsLongest, IsCut}
use Rattle.packet_cutter.specs.Slices.{slices_from, cut_of}
use Rattle.packet_cutter.specs.Forms.{HaveOneForm}

same_reference : (a b : Option ℕ) → is_some a ≡ is_some b → reference_bits a ≡ reference_bits b
same_reference None None e = refl
same_reference None (Some y) e = absurd cc
same_reference (Some x) None e = absurd cc
same_reference (Some x) (Some y) e = refl

same_payload : (h g : Header) (begins : Bool) → HaveOneForm h g → payload_bits (extra_of h begins)
    ≡ payload_bits (extra_of g begins)
same_payload h g true s = refl
same_payload h g false s = ap (λ (n : ℕ). 16 + 8 * ((n + to_byte n) / 8)) s.bits

same_opening : AreSlicesShort → (h g : Header) (begins : Bool) (first : ℕ) → HaveOneForm h g
    → length (opening_text h begins first) ≡ length (opening_text g begins first)
same_opening laws h g true first s = omega (
  arith,
  laws.begins h first,
  laws.begins g first,
  s.bits,
  ap address_bits s.format,
)
same_opening laws h g false first s = omega (
  arith,
  laws.later h first,
  laws.later g first,
  same_reference h.trp g.trp s.named,
  ap address_bits s.format,
)

same_text : (h g : Header) (first : ℕ) (run : List Mb) → HaveOneForm h g → mbs_text (around h first) h.quant [] run
    ≡ mbs_text (around g first) g.quant [] run
same_text h g first run s =
    let text = λ (kind : Kind) (format : Format) (quant : ℕ). mbs_text
    (around (record h { kind = kind; format = format }) first) quant [] run in
    ap (λ (k : Kind). text k h.format h.quant) s.kind ∙ ap (λ (f : Format). text g.kind f h.quant) s.format
    ∙ ap (λ (q : ℕ). text g.kind g.format q) s.quant

pub same_packet : AreSlicesShort → (h g : Header) (first : ℕ) (run : List Mb) → HaveOneForm h g
    → packet_bytes h first run
    ≡ packet_bytes g first run
same_packet laws h g first run s =
    let mine : length (slice_text h (begins_at first) first run) ≡ length (slice_text g (begins_at first) first run) =
    omega (
      arith,
      length-append (opening_text h (begins_at first) first) (mbs_text (around h first) h.quant [] run),
      length-append (opening_text g (begins_at first) first) (mbs_text (around g first) g.quant [] run),
      same_opening laws h g (begins_at first) first s,
      ap length (same_text h g first run s),
    ) in
    ap (λ (n : ℕ). 12 + n / 8 + bytes_filled_by (slice_text h (begins_at first) first run))
    (same_payload h g (begins_at first) s) ∙ ap (λ (n : ℕ). front_bytes g first + (n + to_byte n) / 8) mine

same_longest : AreSlicesShort → (h g : Header) (limit first : ℕ) (run rest : List Mb) → HaveOneForm h g
    → IsLongest h limit first run rest → IsLongest g limit first run rest
same_longest laws h g limit first run rest s a = record {
  some = a.some;
  fits = omega (arith, a.fits, same_packet laws h g first run s);
  longest = λ more others e some. subst (λ (n : ℕ). limit < n) (same_packet laws h g first (run ++ more) s)
      (a.longest more others e some);
}

pub by_style : AreSlicesShort → (h g : Header) (limit first : ℕ) (mbs : List Mb) (runs : List (List Mb))
    → HaveOneForm h g
    → IsCut h limit first mbs runs → IsCut g limit first mbs runs
unfolding IsCut
by_style laws h g limit first mbs [] s a = a
by_style laws h g limit first mbs (run ∷ runs) s a = (
  a.0,
  a.1,
  same_longest laws h g limit first run a.0 s a.2,
  by_style laws h g limit (first + length run) a.0 runs s a.3,
)

pub cut_by_style : AreSlicesShort → (h g : Header) (limit : ℕ) (mbs : List Mb) → HaveOneForm h g
    → cut_of h limit mbs ≡ cut_of g limit mbs
cut_by_style laws h g limit mbs s =
    let same : packet_bytes h ≡ packet_bytes g = λ i. λ first run. same_packet laws h g first run s i in
    ap (λ (size : ℕ → List Mb → ℕ). slices_from (length mbs) size limit 0 mbs) same
