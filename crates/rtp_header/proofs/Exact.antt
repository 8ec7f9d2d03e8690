-- Bytes are read as a packet exactly where they spell it.
use Rattle.std.proofs.Common.{◌≡◌, ℕ, zero, suc, ◌+◌, ◌-◌, ◌*◌, ◌/◌, ◌≤◌, Bool, true, false, cond, List, [], ◌∷◌, ◌++◌, length, take, drop, get_or, Option, Some, None, Result, Ok, Err, refl, sym, ap, subst, ◌∙◌, append_assoc, arith, eq-eqb}
use Rattle.std.specs.Prelude.{◌==◌, ◌||◌, nat_lt}
use Rattle.std.proofs.lemmas.Bool.{ltb-false, le-ltb, eqb-true, eqb-false, ne_eqb}
use Rattle.std.proofs.lemmas.List.{append-nil, length-append, length-drop, length-take, take_at, take-append-drop, get_or-drop}
use Rattle.std.proofs.Math.Seq.{drop-cons}
use Rattle.h263_bits.specs.declared.fault.Fault.{Fault}
use Rattle.h263_bits.specs.Bits.{bits_of}
use Rattle.h263_bits.specs.Reading.{Bits, ok, err}
use Rattle.h263_bits.specs.Syntax.{reading, any, done, Spells, IsProductive}
use Rattle.h263_bits.proofs.SyntaxLaws.{length-bits_of, bits_of-take, bits_of-append, sound, complete, spells_part, spells_done, spells_whole, either_productive, ok_is, err_not_ok, passed_if, passed_unless}
use Rattle.rtp_header.specs.declared.rtp.Rtp.{Rtp}
use Rattle.rtp_header.specs.Text.{Head, head, extension, after_fixed, rtp_front, from_byte, IsPadding, IsRtp}
use Rattle.rtp_header.specs.Faults.{rtp_in, with_head, with_end, with_payload, end_of, payload_end_of, accepted_of}
use Rattle.rtp_header.specs.Written.{IsPayloadWithin}
use Rattle.rtp_header.proofs.Heads.{head_length, after_fixed_length, head_productive}

-- ---- what is read spells the packet

head_ok : (bytes : List ℕ) (r : Rtp) (read : Result (Head × Bits) Fault) → with_head bytes read ≡ Ok r
    → (x : Head × Bits) × (read ≡ Ok x) × (x.0.version ≡ 2)
    × (with_end bytes x.0 (end_of (reading (after_fixed x.0) x.1)) ≡ Ok r)
head_ok bytes r (Ok x) e =
    let p = passed_unless (x.0.version == 2) _ (with_end bytes x.0 (end_of (reading (after_fixed x.0) x.1))) r e in
    (x, refl, eqb-true x.0.version 2 p.0, p.1)
head_ok bytes r (Err f) e = absurd (err_not_ok _ r e)

end_ok : (bytes : List ℕ) (h : Head) (r : Rtp) (read : Result (Unit {0} × Bits) Fault) → with_end bytes h (end_of read)
    ≡ Ok r
    → (c : Bits) × (read ≡ Ok (tt, c)) × (with_payload bytes h (c.at / 8) (payload_end_of h bytes (c.at / 8)) ≡ Ok r)
end_ok bytes h r (Ok x) e = (x.1, refl, e)
end_ok bytes h r (Err f) e = absurd (err_not_ok _ r e)

payload_ok : (bytes : List ℕ) (h : Head) (from : ℕ) (r : Rtp) (o : Option ℕ) → with_payload bytes h from o ≡ Ok r
    → (to : ℕ) × (o ≡ Some to) × (accepted_of h from to ≡ Ok r)
payload_ok bytes h from r (Some to) e = (to, refl, e)
payload_ok bytes h from r None e = absurd (err_not_ok _ r e)

-- the value of a header whose payload is from one byte to another
abbrev value_of : Head → ℕ → ℕ → Rtp
value_of h from to = record {
  marker = h.marker == 1;
  sequence = h.sequence;
  timestamp = h.timestamp;
  from = from;
  to = to;
}

record IsAccepted (h : Head) (from to : ℕ) (r : Rtp) : Type 0 where
  type : h.type ≡ 96
  source : h.source ≡ 1211250227
  value : r ≡ value_of h from to

accepted_ok : (h : Head) (from to : ℕ) (r : Rtp) → accepted_of h from to ≡ Ok r → IsAccepted h from to r
accepted_ok h from to r e =
    let p = passed_unless (h.type == 96) _ (cond (h.source == 1211250227) (ok (value_of h from to)) (err _)) r e in
    let q = passed_unless (h.source == 1211250227) _ (ok (value_of h from to)) r p.1 in
    record {
      type = eqb-true h.type 96 p.0;
      source = eqb-true h.source 1211250227 q.0;
      value = sym (ok_is (value_of h from to) r q.1);
    }

-- the payload and its padding
pub record Parts (padded : ℕ) (rest : List ℕ) (from to : ℕ) : Type 0 where
  pub payload : List ℕ
  pub padding : List ℕ
  pub parts : rest ≡ payload ++ padding
  pub text : IsPadding padded padding
  pub end : to ≡ from + length payload

abbrev pub counted_end : List ℕ → ℕ → ℕ → Option ℕ
counted_end bytes from count = cond ((count == 0) || nat_lt (length bytes - from) count) None
    (Some (length bytes - count))

some_is : (a b : ℕ) → Some a ≡ Some b → a ≡ b
some_is a b e = cc

neither : (a b : Bool) (to end : ℕ) → cond (a || b) None (Some end) ≡ Some to → (a ≡ false) × (b ≡ false) × (end ≡ to)
neither true b to end e = absurd cc
neither false true to end e = absurd cc
neither false false to end e = (refl, refl, some_is end to e)

-- the last element of a list
last_is : (xs : List ℕ) (n : ℕ) → length xs ≡ suc n → drop n xs ≡ get_or xs n 0 ∷ []
last_is xs n len =
    let none : drop (suc n) xs ≡ [] = empty (drop (suc n) xs) (omega (arith, length-drop (suc n) xs)) in
    drop-cons xs n 0 (omega arith) ∙ ap (λ (t : List ℕ). get_or xs n 0 ∷ t) none
  where
    empty : (ys : List ℕ) → length ys ≡ 0 → ys ≡ []
    empty [] e = refl
    empty (y ∷ ys) e = absurd (omega arith)

counted : (p : ℕ) (bytes : List ℕ) (from to count : ℕ) → from ≤ length bytes → get_or bytes (length bytes - 1) 0 ≡ count
    → counted_end bytes from count ≡ Some to → Parts (suc p) (drop from bytes) from to
counted p bytes from to count fits last e =
    let t = neither (count == 0) (nat_lt (length bytes - from) count) to (length bytes - count) e in
    let some : 1 ≤ count = omega (arith, eqb-false count 0 t.0) in
    let low : count ≤ length bytes - from = ltb-false (length bytes - from) count t.1 in
    let rest = drop from bytes in
    let size = length bytes - from - count in
    let padding = drop size rest in
    let len_rest : length rest ≡ length bytes - from = length-drop from bytes in
    let len : length padding ≡ suc (count - 1) = omega (arith, length-drop size rest) in
    let byte : get_or padding (count - 1) 0 ≡ count =
    get_or-drop size rest (count - 1) 0 ∙ get_or-drop from bytes (size + (count - 1)) 0
    ∙ ap (λ (i : ℕ). get_or bytes i 0) (omega arith) ∙ last in
    let others = take (count - 1) padding in
    let len_others : length others + 1 ≡ count = omega (arith, length-take (count - 1) padding) in
    let text : padding ≡ others ++ (length others + 1) ∷ [] =
    sym (take-append-drop (count - 1) padding) ∙ ap (λ (t : List ℕ). others ++ t) (last_is padding (count - 1) len
    ∙ ap (λ (v : ℕ). v ∷ []) (byte ∙ sym len_others)) in
    record {
      payload = take size rest;
      padding = padding;
      parts = sym (take-append-drop size rest);
      text = (others, text);
      end = omega (arith, t.2, length-take size rest);
    }

pub padding_ok : (padded : ℕ) (bytes : List ℕ) (from to : ℕ) → from ≤ length bytes
    → cond (padded == 0) (Some (length bytes)) (counted_end bytes from (get_or bytes (length bytes - 1) 0)) ≡ Some to
    → Parts padded (drop from bytes) from to
padding_ok zero bytes from to fits e = record {
  payload = drop from bytes;
  padding = [];
  parts = sym (append-nil (drop from bytes));
  text = refl;
  end = omega (arith, some_is (length bytes) to e, length-drop from bytes);
}
padding_ok (suc p) bytes from to fits e = counted p bytes from to (get_or bytes (length bytes - 1) 0) fits refl
    (rw (ne_eqb (suc p) 0 (λ same. omega (arith, same))) at e)

-- the bytes in front of the payload spell the header
pub record Front (h : Head) (bytes : List ℕ) (from : ℕ) : Type 0 where
  pub fits : from ≤ length bytes
  pub text : Spells rtp_front h (bits_of (take from bytes))

pub front_is : (h : Head) (bytes : List ℕ) (b c : Bits) → reading head (from_byte 0 bytes) ≡ Ok (h, b)
    → reading (after_fixed h) b ≡ Ok (tt, c) → Front h bytes (c.at / 8)
unfolding rtp_front
front_is h bytes b c e f =
    let one = sound head (from_byte 0 bytes) b h e in
    let two = sound (after_fixed h) b c tt f in
    let m = after_fixed_length h two.0 two.2 in
    let text = one.0 ++ two.0 in
    let k = c.at / 8 in
    let size : length text ≡ 8 * k = omega (
      arith,
      length-append one.0 two.0,
      head_length h one.0 one.2,
      m.1,
      one.1.at,
      two.1.at,
    ) in
    let whole : bits_of bytes ≡ text ++ c.bits = one.1.parts ∙ ap (λ (t : List Bool). one.0 ++ t) two.1.parts
    ∙ sym (append_assoc one.0 two.0 c.bits) in
    let fits : k ≤ length bytes = omega (
      arith,
      length-bits_of bytes,
      ap length whole,
      length-append text c.bits,
      size,
    ) in
    let front : bits_of (take k bytes) ≡ text = bits_of-take k bytes fits ∙ ap (take (8 * k)) whole
    ∙ take_at text c.bits (8 * k) size in
    let end : Spells (after_fixed h) tt two.0 = two.2 in
    let spelt : Spells rtp_front h (one.0 ++ (two.0 ++ [])) = spells_part head any _ h h one.0 (two.0 ++ []) one.2 refl
    (spells_part (after_fixed h) any _ h tt two.0 [] end refl (spells_done h)) in
    record {
      fits = fits;
      text = spells_whole rtp_front h (one.0 ++ (two.0 ++ [])) (bits_of (take k bytes))
          (ap (λ (t : List Bool). one.0 ++ t) (append-nil two.0) ∙ sym front) spelt;
    }

-- what is read as a header is one
pub read_text : (r : Rtp) (bytes : List ℕ) → rtp_in bytes ≡ Ok r → IsRtp r bytes
unfolding rtp_in
read_text r bytes e =
    let short = passed_if (nat_lt 65535 (length bytes)) _ (with_head bytes (reading head (from_byte 0 bytes))) r e in
    let one = head_ok bytes r (reading head (from_byte 0 bytes)) short.1 in
    let h = one.0.0 in
    let two = end_ok bytes h r (reading (after_fixed h) one.0.1) one.3 in
    let from = two.0.at / 8 in
    let front = front_is h bytes one.0.1 two.0 one.1 two.1 in
    let three = payload_ok bytes h from r (payload_end_of h bytes from) two.2 in
    let accepted = accepted_ok h from three.0 r three.2 in
    let parts = padding_ok h.padding bytes from three.0 front.fits three.1 in
    let len : length (take from bytes) ≡ from = omega (arith, length-take from bytes, front.fits) in
    record {
      fields = h;
      front = take from bytes;
      payload = parts.payload;
      padding = parts.padding;
      parts = sym (take-append-drop from bytes) ∙ ap (λ (t : List ℕ). take from bytes ++ t) parts.parts;
      short = ltb-false 65535 (length bytes) short.0;
      text = front.text;
      version = one.2;
      type = accepted.type;
      source = accepted.source;
      padded = parts.text;
      value = accepted.value ∙ ap (value_of h from) parts.end
          ∙ ap (λ (k : ℕ). value_of h k (k + length parts.payload)) (sym len);
    }

-- ---- what spells a packet is read

pub after_fixed_productive : (h : Head) → IsProductive (after_fixed h)
unfolding after_fixed extension IsProductive
after_fixed_productive h = λ v. either_productive (h.extension == 0) (done tt) extension nothing (λ a b w. tt)
  where
    nothing : IsProductive (done {A = Unit {0}} tt)
    nothing = tt

-- the two parts of a header's text
pub record Halves (h : Head) (bits : List Bool) : Type 0 where
  pub fixed : List Bool
  pub more : List Bool
  pub parts : bits ≡ fixed ++ more
  pub head : Spells head h fixed
  pub after_fixed : Spells (after_fixed h) tt more

pub halves_of : (h : Head) (bits : List Bool) → Spells rtp_front h bits → Halves h bits
unfolding rtp_front Spells
halves_of h bits s =
    let g = s.0 in
    let t = s.6 in
    let same : h ≡ g = t.6.0 in
    let none : t.2 ≡ [] = t.6.1 in
    let more : s.2 ≡ t.1 = t.3 ∙ ap (λ (x : List Bool). t.1 ++ x) none ∙ append-nil t.1 in
    record {
      fixed = s.1;
      more = t.1;
      parts = s.3 ∙ ap (λ (x : List Bool). s.1 ++ x) more;
      head = subst (λ (f : Head). Spells head f s.1) (sym same) s.4;
      after_fixed = subst (λ (f : Head). Spells (after_fixed f) tt t.1) (sym same) t.4;
    }

last_byte : (xs : List ℕ) (v : ℕ) → get_or (xs ++ v ∷ []) (length xs) 0 ≡ v
last_byte [] v = refl
last_byte (x ∷ xs) v = last_byte xs v

pub payload_is : (padded : ℕ) (bytes front payload padding : List ℕ) → bytes ≡ front ++ (payload ++ padding)
    → IsPadding padded padding
    → cond (padded == 0) (Some (length bytes)) (counted_end bytes (length front) (get_or bytes (length bytes - 1) 0))
    ≡ Some (length front + length payload)
payload_is zero bytes front payload padding e none = ap (λ (n : ℕ). Some n) (omega (
  arith,
  ap length e,
  length-append front (payload ++ padding),
  length-append payload padding,
  ap length none,
))
payload_is (suc p) bytes front payload padding e text =
    let others = text.0 in
    let count = length others + 1 in
    let before = front ++ (payload ++ others) in
    let whole : bytes ≡ before ++ count ∷ [] =
    e ∙ ap (λ (t : List ℕ). front ++ (payload ++ t)) text.1
    ∙ ap (λ (t : List ℕ). front ++ t) (sym (append_assoc payload others (count ∷ [])))
    ∙ sym (append_assoc front (payload ++ others) (count ∷ [])) in
    let len_before : length before ≡ length front + (length payload + length others) = length-append front (payload
    ++ others) ∙ ap (λ (n : ℕ). length front + n) (length-append payload others) in
    let len : length bytes ≡ length before + 1 = ap length whole ∙ length-append before (count ∷ []) in
    let last : get_or bytes (length bytes - 1) 0 ≡ count = ap (λ (i : ℕ). get_or bytes i 0) (omega (arith, len))
    ∙ ap (λ (t : List ℕ). get_or t (length before) 0) whole ∙ last_byte before count in
    let some : (count == 0) ≡ false = ne_eqb count 0 (λ same. omega (arith, same)) in
    rw (
      ne_eqb (suc p) 0 (λ same. omega (arith, same)),
      last,
      some,
      le-ltb (length bytes - length front) count (omega (arith, len, len_before)),
    )
    (ap (λ (n : ℕ). Some n) (omega (arith, len, len_before)))

-- what is looked for after a whole header of version 2
pub opened : (bytes front rest : List ℕ) (h : Head) → length bytes ≤ 65535 → bytes ≡ front ++ rest
    → Spells rtp_front h (bits_of front) → h.version ≡ 2
    → rtp_in bytes ≡ with_payload bytes h (length front) (payload_end_of h bytes (length front))
unfolding rtp_in
opened bytes front rest h few parts text two =
    let halves = halves_of h (bits_of front) text in
    let tail = bits_of rest in
    let whole : bits_of bytes ≡ halves.fixed ++ (halves.more ++ tail) =
    ap bits_of parts ∙ bits_of-append front rest ∙ ap (λ (t : List Bool). t ++ tail) halves.parts
    ∙ append_assoc halves.fixed halves.more tail in
    let size : 0 + length halves.fixed + length halves.more ≡ 8 * length front = omega (
      arith,
      length-bits_of front,
      ap length halves.parts,
      length-append halves.fixed halves.more,
    ) in
    let one : reading head (from_byte 0 bytes) ≡ Ok (
      h,
      record {
        at = 0 + length halves.fixed;
        bits = halves.more ++ tail;
      },
    ) =
    ap (λ (t : List Bool). reading head (record { at = 0; bits = t })) whole
    ∙ complete head h halves.fixed (halves.more ++ tail) 0 head_productive halves.head in
    let end : end_of (reading (after_fixed h) (record { at = 0 + length halves.fixed; bits = halves.more ++ tail }))
    ≡ Some (length front) =
    ap end_of (complete (after_fixed h) tt halves.more tail (0 + length halves.fixed) (after_fixed_productive h)
    halves.after_fixed) ∙ ap (λ (n : ℕ). Some n) (ap (λ (n : ℕ). n / 8) size ∙ omega arith) in
    rw (le-ltb 65535 (length bytes) few, one, eq-eqb h.version 2 two, end) refl

-- what is a header is read
pub text_read : (r : Rtp) (bytes : List ℕ) → IsRtp r bytes → rtp_in bytes ≡ Ok r
text_read r bytes s =
    let h = s.fields in
    let end : payload_end_of h bytes (length s.front) ≡ Some (length s.front + length s.payload) =
    payload_is h.padding bytes s.front s.payload s.padding s.parts s.padded in
    let accepted : accepted_of h (length s.front) (length s.front + length s.payload)
    ≡ Ok r = rw (eq-eqb h.type 96 s.type, eq-eqb h.source 1211250227 s.source)
    (ap (λ (v : Rtp). Ok v) (sym s.value)) in
    opened bytes s.front (s.payload ++ s.padding) h s.short s.parts s.text s.version
    ∙ ap (with_payload bytes h (length s.front)) end ∙ accepted

-- the payload lies in the packet
pub text_within : (r : Rtp) (bytes : List ℕ) → IsRtp r bytes → IsPayloadWithin r bytes
text_within r bytes s =
    let halves = halves_of s.fields (bits_of s.front) s.text in
    let from : r.from ≡ length s.front = ap (λ (v : Rtp). v.from) s.value in
    let to : r.to ≡ length s.front + length s.payload = ap (λ (v : Rtp). v.to) s.value in
    let long : 12 ≤ length s.front = omega (
      arith,
      length-bits_of s.front,
      ap length halves.parts,
      length-append halves.fixed halves.more,
      head_length s.fields halves.fixed halves.head,
    ) in
    let whole : length bytes ≡ length s.front + (length s.payload + length s.padding) = ap length s.parts
    ∙ length-append s.front (s.payload ++ s.padding)
    ∙ ap (λ (n : ℕ). length s.front + n) (length-append s.payload s.padding) in
    record {
      fixed = omega (arith, from, long);
      order = omega (arith, from, to);
      end = omega (arith, to, whole);
      short = s.short;
    }
