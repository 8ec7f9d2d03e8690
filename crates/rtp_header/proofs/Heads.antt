-- The fixed header, the sources and the extension, from the bytes that hold them.
use Rattle.std.proofs.Common.{◌≡◌, ℕ, ◌+◌, ◌-◌, ◌*◌, ◌/◌, ◌%◌, ◌^◌, ◌<◌, ◌≤◌, Bool, true, false, List, [], ◌∷◌, ◌++◌, length, take, drop, get_or, Some, None, Ok, Err, refl, sym, ap, ◌∙◌, append_assoc, arith, inl, inr}
use Rattle.std.specs.Prelude.{◌==◌}
use Rattle.std.proofs.lemmas.Bool.{cases_lt, lt-ltb, le-ltb}
use Rattle.std.proofs.lemmas.List.{length-append, length-drop, drop-drop, get_or-drop}
use Rattle.byteorder.specs.Endian.{big_number}
use Rattle.h263_bits.specs.declared.fault.FaultKind.TheVariants.{Ended}
use Rattle.h263_bits.specs.Bits.{bits_of, spelled, number, fields}
use Rattle.h263_bits.specs.Reading.{Bits, number_at}
use Rattle.h263_bits.specs.Syntax.{field, done, any, either, Spells, IsProductive, reading}
use Rattle.h263_bits.proofs.SyntaxLaws.{spelled-append, length-bits_of, number-push, bits_of-take, bits_of-drop, spells_field, spells_done, complete, sound, ok_is, length-fields, field_length, done_length}
use Rattle.rtp_header.specs.Text.{Head, head, extension, after_fixed, from_byte}
use Rattle.rtp_header.specs.Faults.{end_of}

-- ---- the fixed header

-- its fields, by its bytes
abbrev pub head_of : List ℕ → Head
head_of bytes = record {
  version = get_or bytes 0 0 / 64;
  padding = get_or bytes 0 0 / 32 % 2;
  extension = get_or bytes 0 0 / 16 % 2;
  sources = get_or bytes 0 0 % 16;
  marker = get_or bytes 1 0 / 128;
  type = get_or bytes 1 0 % 128;
  sequence = big_number 2 (drop 2 bytes);
  timestamp = big_number 4 (drop 4 bytes);
  source = big_number 4 (drop 8 bytes);
}

abbrev pub head_fields : Head → List (ℕ × ℕ)
head_fields h =
    (2, h.version) ∷ (1, h.padding) ∷ (1, h.extension) ∷ (4, h.sources) ∷ (1, h.marker) ∷ (7, h.type) ∷ (
      16,
      h.sequence,
    ) ∷ (32, h.timestamp) ∷ (32, h.source) ∷ []

pub record IsHead (h : Head) : Type 0 where
  pub version : h.version < 4
  pub padding : h.padding < 2
  pub extension : h.extension < 2
  pub sources : h.sources < 16
  pub marker : h.marker < 2
  pub type : h.type < 128
  pub sequence : h.sequence < 65536
  pub timestamp : h.timestamp < 4294967296
  pub source : h.source < 4294967296

pub head_spelt : (h : Head) → IsHead h → Spells head h (fields (head_fields h))
unfolding head
head_spelt h ok =
    spells_field 2 _ _ _ h.version _ (omega arith) refl (spells_field 1 _ _ _ h.padding _ (omega arith) refl
    (spells_field 1 _ _ _ h.extension _ (omega arith) refl (spells_field 4 _ _ _ h.sources _ (omega arith) refl
    (spells_field 1 _ _ _ h.marker _ (omega arith) refl (spells_field 7 _ _ _ h.type _ (omega arith) refl
    (spells_field 16 _ _ _ h.sequence _ (omega arith) refl (spells_field 32 _ _ _ h.timestamp _ (omega arith) refl
    (spells_field 32 _ _ _ h.source _ (omega arith) refl (spells_done _)))))))))

pub head_productive : IsProductive head
unfolding head IsProductive
head_productive a b c d e f g h i = tt

-- what is read of a fixed header, whatever follows
pub head_read : (h : Head) (rest : List Bool) → IsHead h
    → reading head (record { at = 0; bits = fields (head_fields h) ++ rest }) ≡ Ok (h, record { at = 96; bits = rest })
head_read h rest ok = complete head h (fields (head_fields h)) rest 0 head_productive (head_spelt h ok)
    ∙ ap (λ (n : ℕ). Ok (h, record { at = 0 + n; bits = rest })) (length-fields (head_fields h))

pub first_byte : (b : ℕ) → spelled 8 b ≡ spelled 2 (b / 64)
    ++ (spelled 1 (b / 32 % 2) ++ (spelled 1 (b / 16 % 2) ++ spelled 4 (b % 16)))
first_byte b =
    let x = b / 16 % 2 in
    let p = b / 32 % 2 in
    let low : ℕ = x * 2 ^ 4 + b % 16 in
    let whole : b ≡ b / 64 * 2 ^ 6 + (p * 2 ^ 5 + low) = omega arith in
    ap (spelled 8) whole ∙ spelled-append 2 6 (b / 64) (p * 2 ^ 5 + low) (omega arith)
    ∙ ap (λ (t : List Bool). spelled 2 (b / 64) ++ t) (spelled-append 1 5 p low (omega arith)
    ∙ ap (λ (t : List Bool). spelled 1 p ++ t) (spelled-append 1 4 x (b % 16) (omega arith)))

pub second_byte : (b : ℕ) → spelled 8 b ≡ spelled 1 (b / 128) ++ spelled 7 (b % 128)
second_byte b =
    let whole : b ≡ b / 128 * 2 ^ 7 + b % 128 = omega arith in
    ap (spelled 8) whole ∙ spelled-append 1 7 (b / 128) (b % 128) (omega arith)

pub two_bytes : (a b : ℕ) → b < 256 → spelled 16 (a * 256 + b) ≡ spelled 8 a ++ spelled 8 b
two_bytes a b h = spelled-append 8 8 a b h

pub four_bytes : (a b c d : ℕ) → b < 256 → c < 256 → d < 256 → spelled 32 (a * 16777216 + b * 65536 + c * 256 + d)
    ≡ spelled 8 a ++ (spelled 8 b ++ (spelled 8 c ++ spelled 8 d))
four_bytes a b c d hb hc hd =
    let low : ℕ = c * 2 ^ 8 + d in
    let whole : a * 16777216 + b * 65536 + c * 256 + d ≡ a * 2 ^ 24 + (b * 2 ^ 16 + low) = omega arith in
    ap (spelled 32) whole ∙ spelled-append 8 24 a (b * 2 ^ 16 + low) (omega arith)
    ∙ ap (λ (t : List Bool). spelled 8 a ++ t) (spelled-append 8 16 b low (omega arith)
    ∙ ap (λ (t : List Bool). spelled 8 b ++ t) (spelled-append 8 8 c d hd))

-- the fixed header of bytes, of which there are twelve at least
pub head_is : (bytes : List ℕ) → 12 ≤ length bytes → ((i : ℕ) → get_or bytes i 0 < 256)
    → reading head (from_byte 0 bytes) ≡ Ok (head_of bytes, from_byte 12 bytes)
unfolding bits_of
head_is [] h small = absurd (omega arith)
head_is (b0 ∷ []) h small = absurd (omega arith)
head_is (b0 ∷ b1 ∷ []) h small = absurd (omega arith)
head_is (b0 ∷ b1 ∷ b2 ∷ []) h small = absurd (omega arith)
head_is (b0 ∷ b1 ∷ b2 ∷ b3 ∷ []) h small = absurd (omega arith)
head_is (b0 ∷ b1 ∷ b2 ∷ b3 ∷ b4 ∷ []) h small = absurd (omega arith)
head_is (b0 ∷ b1 ∷ b2 ∷ b3 ∷ b4 ∷ b5 ∷ []) h small = absurd (omega arith)
head_is (b0 ∷ b1 ∷ b2 ∷ b3 ∷ b4 ∷ b5 ∷ b6 ∷ []) h small = absurd (omega arith)
head_is (b0 ∷ b1 ∷ b2 ∷ b3 ∷ b4 ∷ b5 ∷ b6 ∷ b7 ∷ []) h small = absurd (omega arith)
head_is (b0 ∷ b1 ∷ b2 ∷ b3 ∷ b4 ∷ b5 ∷ b6 ∷ b7 ∷ b8 ∷ []) h small = absurd (omega arith)
head_is (b0 ∷ b1 ∷ b2 ∷ b3 ∷ b4 ∷ b5 ∷ b6 ∷ b7 ∷ b8 ∷ b9 ∷ []) h small = absurd (omega arith)
head_is (b0 ∷ b1 ∷ b2 ∷ b3 ∷ b4 ∷ b5 ∷ b6 ∷ b7 ∷ b8 ∷ b9 ∷ b10 ∷ []) h small = absurd (omega arith)
head_is (b0 ∷ b1 ∷ b2 ∷ b3 ∷ b4 ∷ b5 ∷ b6 ∷ b7 ∷ b8 ∷ b9 ∷ b10 ∷ b11 ∷ rest) h small =
    let bytes : List ℕ = b0 ∷ b1 ∷ b2 ∷ b3 ∷ b4 ∷ b5 ∷ b6 ∷ b7 ∷ b8 ∷ b9 ∷ b10 ∷ b11 ∷ rest in
    let ok : IsHead (head_of bytes) = record {
      version = omega (arith, small 0);
      padding = omega arith;
      extension = omega arith;
      sources = omega arith;
      marker = omega (arith, small 1);
      type = omega arith;
      sequence = omega (arith, small 2, small 3);
      timestamp = omega (arith, small 4, small 5, small 6, small 7);
      source = omega (arith, small 8, small 9, small 10, small 11);
    } in
    let sequence : spelled 16 (big_number 2 (drop 2 bytes)) ≡ spelled 8 b2
    ++ spelled 8 b3 = ap (spelled 16) (omega arith) ∙ two_bytes b2 b3 (small 3) in
    let timestamp : spelled 32 (big_number 4 (drop 4 bytes)) ≡ spelled 8 b4
    ++ (spelled 8 b5 ++ (spelled 8 b6 ++ spelled 8 b7)) = ap (spelled 32) (omega arith)
    ∙ four_bytes b4 b5 b6 b7 (small 5) (small 6) (small 7) in
    let source : spelled 32 (big_number 4 (drop 8 bytes)) ≡ spelled 8 b8
    ++ (spelled 8 b9 ++ (spelled 8 b10 ++ spelled 8 b11)) = ap (spelled 32) (omega arith)
    ∙ four_bytes b8 b9 b10 b11 (small 9) (small 10) (small 11) in
    let text : bits_of bytes ≡ fields (head_fields (head_of bytes)) ++ bits_of rest = rw (
      first_byte b0,
      second_byte b1,
      sequence,
      timestamp,
      source,
    ) (simp append_assoc) in
    ap (λ (t : List Bool). reading head (record { at = 0; bits = t })) text
    ∙ head_read (head_of bytes) (bits_of rest) ok

-- ---- its length

pub head_length : (h : Head) (bits : List Bool) → Spells head h bits → length bits ≡ 96
unfolding head
head_length h bits spelt =
    let a = field_length 2 _ _ h bits spelt in
    let b = field_length 1 _ _ h a.1 a.2 in
    let c = field_length 1 _ _ h b.1 b.2 in
    let d = field_length 4 _ _ h c.1 c.2 in
    let e = field_length 1 _ _ h d.1 d.2 in
    let f = field_length 7 _ _ h e.1 e.2 in
    let g = field_length 16 _ _ h f.1 f.2 in
    let i = field_length 32 _ _ h g.1 g.2 in
    let j = field_length 32 _ _ h i.1 i.2 in
    let end : length bits ≡ 2 + (1 + (1 + (4 + (1 + (7 + (16 + (32 + (32 + 0)))))))) =
    a.3 ∙ ap (λ (n : ℕ). 2 + n) (b.3
    ∙ ap (λ (n : ℕ). 1 + n) (c.3
    ∙ ap (λ (n : ℕ). 1 + n) (d.3
    ∙ ap (λ (n : ℕ). 4 + n) (e.3
    ∙ ap (λ (n : ℕ). 1 + n) (f.3
    ∙ ap (λ (n : ℕ). 7 + n) (g.3
    ∙ ap (λ (n : ℕ). 16 + n) (i.3
    ∙ ap (λ (n : ℕ). 32 + n) (j.3 ∙ ap (λ (n : ℕ). 32 + n) (done_length _ h j.1 j.2))))))))) in
    end

-- fewer bytes hold no fixed header
pub head_short : (bytes : List ℕ) (x : Head × Bits) → length bytes < 12 → reading head (from_byte 0 bytes) ≡ Ok x → ⊥
head_short bytes x short e =
    let f = sound head (from_byte 0 bytes) x.1 x.0 e in
    omega (arith, head_length x.0 f.0 f.2, ap length f.1.parts, length-append f.0 x.1.bits, length-bits_of bytes)

pub record IsOpened (bytes : List ℕ) (h : Head) (b : Bits) : Type 0 where
  pub head : h ≡ head_of bytes
  pub rest : b ≡ from_byte 12 bytes

-- what is read of twelve bytes or more is how they open
pub opened_is : (bytes : List ℕ) (h : Head) (b : Bits) → 12 ≤ length bytes → ((i : ℕ) → get_or bytes i 0 < 256)
    → reading head (from_byte 0 bytes) ≡ Ok (h, b) → IsOpened bytes h b
opened_is bytes h b long small e =
    let same = ok_is (h, b) (head_of bytes, from_byte 12 bytes) (sym e ∙ head_is bytes long small) in
    record { head = ap (λ (p : Head × Bits). p.0) same; rest = ap (λ (p : Head × Bits). p.1) same }

-- ---- whole bytes

bytes_of-take : (k m : ℕ) (bytes : List ℕ) → k + m ≤ length bytes → number_at (8 * m) (from_byte k bytes)
    ≡ Ok (number (bits_of (take m (drop k bytes))), from_byte (k + m) bytes)
unfolding number_at
bytes_of-take k m bytes h =
    let rest = drop k bytes in
    let len : length (bits_of rest) ≡ 8 * (length bytes - k) = omega (
      arith,
      length-bits_of rest,
      length-drop k bytes,
    ) in
    let front : take (8 * m) (bits_of rest) ≡ bits_of (take m rest) =
    sym (bits_of-take m rest (omega (arith, length-drop k bytes))) in
    let after_fixed : drop (8 * m) (bits_of rest) ≡ bits_of (drop (k + m) bytes) = sym (bits_of-drop m rest)
    ∙ ap bits_of (drop-drop m k bytes) in
    let place : 8 * k + 8 * m ≡ 8 * (k + m) = omega arith in
    rw (le-ltb (length (bits_of rest)) (8 * m) (omega (arith, len)), front, after_fixed, place) refl

bytes_of-cut : (k m : ℕ) (bytes : List ℕ) → k ≤ length bytes → length bytes < k + m
    → number_at (8 * m) (from_byte k bytes) ≡ Err (record { kind = Ended; at = 8 * k })
unfolding number_at
bytes_of-cut k m bytes low h =
    let rest = drop k bytes in
    let len : length (bits_of rest) ≡ 8 * (length bytes - k) = omega (
      arith,
      length-bits_of rest,
      length-drop k bytes,
    ) in
    rw (lt-ltb (length (bits_of rest)) (8 * m) (omega (arith, len))) refl

nothing : number (bits_of []) ≡ 0
unfolding number bits_of
nothing = refl

-- two bytes as a number
two_is : (xs : List ℕ) → 2 ≤ length xs → ((i : ℕ) → get_or xs i 0 < 256) → number (bits_of (take 2 xs))
    ≡ big_number 2 xs
two_is [] h small = absurd (omega arith)
two_is (a ∷ []) h small = absurd (omega arith)
two_is (a ∷ b ∷ rest) h small = rw (number-push (a ∷ []) b (small 1), number-push [] a (small 0), nothing) (omega arith)

-- ---- what stands after the fixed header

-- the sources are cut
pub after_fixed_cut : (h : Head) (bytes : List ℕ) → 12 ≤ length bytes → length bytes < 12 + 4 * h.sources
    → end_of (reading (after_fixed h) (from_byte 12 bytes)) ≡ None
unfolding reading after_fixed
after_fixed_cut h bytes long cut = rw (bytes_of-cut 12 (4 * h.sources) bytes long cut) refl

-- no extension
pub after_fixed_plain : (h : Head) (bytes : List ℕ) → 12 + 4 * h.sources ≤ length bytes → h.extension ≡ 0
    → end_of (reading (after_fixed h) (from_byte 12 bytes)) ≡ Some (12 + 4 * h.sources)
unfolding reading after_fixed
after_fixed_plain h bytes fits none =
    let bytes_back : 8 * (12 + 4 * h.sources) / 8 ≡ 12 + 4 * h.sources = omega arith in
    rw (bytes_of-take 12 (4 * h.sources) bytes fits, none, bytes_back) refl

extension_is : (h : Head) (bytes : List ℕ) → 12 + 4 * h.sources ≤ length bytes → (h.extension == 0) ≡ false
    → reading (after_fixed h) (from_byte 12 bytes) ≡ reading extension (from_byte (12 + 4 * h.sources) bytes)
unfolding reading after_fixed
extension_is h bytes fits some = rw (bytes_of-take 12 (4 * h.sources) bytes fits, some) refl

-- the extension's first four bytes are cut
extension_cut : (k : ℕ) (bytes : List ℕ) → k ≤ length bytes → length bytes < k + 4
    → end_of (reading extension (from_byte k bytes)) ≡ None
unfolding reading extension
extension_cut k bytes low cut =
    elim (cases_lt (length bytes) (k + 2)) [
      | inl first ↦ rw (bytes_of-cut k 2 bytes low first) refl
      | inr more ↦ rw (bytes_of-take k 2 bytes more, bytes_of-cut (k + 2) 2 bytes more (omega arith)) refl
    ]

words_is : (k : ℕ) (bytes : List ℕ) → k + 4 ≤ length bytes → ((i : ℕ) → get_or bytes i 0 < 256)
    → number (bits_of (take 2 (drop (k + 2) bytes))) ≡ big_number 2 (drop (k + 2) bytes)
words_is k bytes fits small = two_is (drop (k + 2) bytes) (omega (arith, length-drop (k + 2) bytes))
    (λ i. rw (get_or-drop (k + 2) bytes i 0) (small (k + 2 + i)))

extension_words : (k : ℕ) (bytes : List ℕ) → k + 4 ≤ length bytes → ((i : ℕ) → get_or bytes i 0 < 256)
    → reading extension (from_byte k bytes)
    ≡ reading (field (8 * (4 * big_number 2 (drop (k + 2) bytes))) any (λ contents. done tt))
    (from_byte (k + 2 + 2) bytes)
unfolding reading extension
extension_words k bytes fits small = rw (
  bytes_of-take k 2 bytes (omega arith),
  bytes_of-take (k + 2) 2 bytes (omega arith),
  words_is k bytes fits small,
) refl

words_cut : (k m : ℕ) (bytes : List ℕ) → k ≤ length bytes → length bytes < k + m
    → end_of (reading (field (8 * m) any (λ contents. done tt)) (from_byte k bytes)) ≡ None
unfolding reading
words_cut k m bytes low cut = rw (bytes_of-cut k m bytes low cut) refl

words_fit : (k m : ℕ) (bytes : List ℕ) → k + m ≤ length bytes
    → end_of (reading (field (8 * m) any (λ contents. done tt)) (from_byte k bytes)) ≡ Some (k + m)
unfolding reading
words_fit k m bytes fits =
    let back : 8 * (k + m) / 8 ≡ k + m = omega arith in
    rw (bytes_of-take k m bytes fits, back) refl

-- where the extension is cut in its first four bytes, in its words, and where it isn't
pub after_fixed_extended : (h : Head) (bytes : List ℕ) → 12 + 4 * h.sources ≤ length bytes → (h.extension == 0) ≡ false
    → length bytes < 12 + 4 * h.sources + 4 → end_of (reading (after_fixed h) (from_byte 12 bytes)) ≡ None
after_fixed_extended h bytes fits some cut = ap end_of (extension_is h bytes fits some)
    ∙ extension_cut (12 + 4 * h.sources) bytes fits cut

abbrev words_of : Head → List ℕ → ℕ
words_of h bytes = big_number 2 (drop (12 + 4 * h.sources + 2) bytes)

pub after_fixed_words_cut : (h : Head) (bytes : List ℕ) → 12 + 4 * h.sources + 4 ≤ length bytes
    → (h.extension == 0) ≡ false → ((i : ℕ) → get_or bytes i 0 < 256)
    → length bytes < 12 + 4 * h.sources + 4 + 4 * words_of h bytes
    → end_of (reading (after_fixed h) (from_byte 12 bytes)) ≡ None
after_fixed_words_cut h bytes fits some small cut =
    let k = 12 + 4 * h.sources in
    ap end_of (extension_is h bytes (omega arith) some ∙ extension_words k bytes fits small)
    ∙ words_cut (k + 2 + 2) (4 * words_of h bytes) bytes (omega arith) (omega arith)

pub after_fixed_words : (h : Head) (bytes : List ℕ) → 12 + 4 * h.sources + 4 ≤ length bytes → (h.extension == 0) ≡ false
    → ((i : ℕ) → get_or bytes i 0 < 256)
    → 12 + 4 * h.sources + 4 + 4 * words_of h bytes ≤ length bytes
    → end_of (reading (after_fixed h) (from_byte 12 bytes)) ≡ Some (12 + 4 * h.sources + 4 + 4 * words_of h bytes)
after_fixed_words h bytes fits some small whole =
    let k = 12 + 4 * h.sources in
    ap end_of (extension_is h bytes (omega arith) some ∙ extension_words k bytes fits small)
    ∙ words_fit (k + 2 + 2) (4 * words_of h bytes) bytes (omega arith) ∙ ap (λ (n : ℕ). Some n) (omega arith)

-- ---- the length of what stands after the fixed header

pub after_fixed_length : (h : Head) (text : List Bool) → Spells (after_fixed h) tt text
    → (m : ℕ) × (length text ≡ 8 * m)
unfolding after_fixed extension
after_fixed_length h text spelt =
    let a = field_length (8 * (4 * h.sources)) _ _ tt text spelt in
    let more = at_extension (h.extension == 0) a.1 a.2 in
    (4 * h.sources + more.0, omega (arith, a.3, more.1))
  where
    at_extension : (t : Bool) (rest : List Bool) → Spells (either t (done tt) extension) tt rest
        → (m : ℕ) × (length rest ≡ 8 * m)
    at_extension true rest s = (0, done_length tt tt rest s)
    at_extension false rest s =
        let b = field_length 16 _ _ tt rest s in
        let c = field_length 16 _ _ tt b.1 b.2 in
        let d = field_length (8 * (4 * c.0)) _ _ tt c.1 c.2 in
        (4 + 4 * c.0, omega (arith, b.3, c.3, d.3, done_length tt tt d.1 d.2))
