-- A packet has its first fault where a row of the table has it, and nowhere else.
use Rattle.std.proofs.Common.{◌≡◌, ◌⊎◌, ℕ, ◌+◌, ◌-◌, ◌*◌, ◌/◌, ◌^◌, ◌<◌, ◌≤◌, Bool, true, false, cond, refl, sym, ap, subst, ◌∙◌, append_assoc, arith, inl, inr, List, [], ◌∷◌, ◌++◌, length, take, drop, Option, Some, None, Result, Ok, Err, eq-eqb}
use Rattle.std.specs.Prelude.{◌==◌, ◌||◌, ◌↔◌, nat_lt, slice_index}
use Rattle.std.proofs.lemmas.Bool.{cases_lt, lt-ltb, le-ltb, ltb-true, eqb-true, eqb-false, ne_eqb}
use Rattle.std.proofs.lemmas.List.{append-nil, length-append, length-drop, length-take, take-append-drop}
use Rattle.h263_bits.specs.declared.fault.Fault.{Fault}
use Rattle.h263_bits.specs.declared.fault.FaultKind.{FaultKind}
use Rattle.h263_bits.specs.declared.fault.FaultKind.TheVariants as faults
use Rattle.h263_bits.specs.Bits.{spelled, number, fields}
use Rattle.h263_bits.specs.Reading.{Bits}
use Rattle.h263_bits.specs.Syntax.{any, either, done, field, Syntax, reading}
use Rattle.h263_bits.specs.Elements.{ElementFaults}
use Rattle.h263_bits.proofs.SyntaxLaws.{stands, err_is, err_not_ok, sound, complete, length-spelled, length-bits_of, spelled-number, number-lt, fault_found, fault_again}
use Rattle.rtp_header.specs.declared.rtp.Rtp.{Rtp}
use Rattle.rtp_header.specs.Text.{Head, head, extension, after_fixed, from_byte, IsRtp}
use Rattle.rtp_header.specs.Faults.{rtp_in, with_head, with_end, with_payload, end_of, payload_end_of, accepted_of}
use Rattle.rtp_header.specs.Rows.{Begins, EndsInExtension, EndsInside, Carries, IsWholePayload, IsRtpFault, long, short, version, short_after_fixed, padding, type, source}
use Rattle.rtp_header.proofs.Heads.{head_length, head_productive}
use Rattle.rtp_header.proofs.Exact.{padding_ok, front_is, after_fixed_productive, payload_is, opened, text_read}

-- ---- what a row has is found

few_is : (bytes : List ℕ) → length bytes ≤ 65535 → rtp_in bytes ≡ with_head bytes (reading head (from_byte 0 bytes))
unfolding rtp_in
few_is bytes le = rw (le-ltb 65535 (length bytes) le) refl

long_row : (bytes : List ℕ) → 65535 < length bytes → rtp_in bytes ≡ Err (stands faults.Long 0)
unfolding rtp_in
long_row bytes lt = rw (lt-ltb 65535 (length bytes) lt) refl

short_row : (bytes : List ℕ) → length bytes < 12 → rtp_in bytes ≡ Err (stands faults.Short (8 * length bytes))
short_row bytes lt = few_is bytes (omega arith) ∙ at_head (reading head (from_byte 0 bytes)) refl
  where
    at_head : (r : Result (Head × Bits) Fault) → reading head (from_byte 0 bytes) ≡ r
        → with_head bytes r ≡ Err (stands faults.Short (8 * length bytes))
    at_head (Err e) is = refl
    at_head (Ok x) is =
        let t = sound head (from_byte 0 bytes) x.1 x.0 is in
        absurd (omega (
          arith,
          head_length x.0 t.0 t.2,
          ap length t.1.parts,
          length-append t.0 x.1.bits,
          length-bits_of bytes,
        ))

-- the bits after the fixed header
abbrev after : List Bool → Bits
after left = record { at = 96; bits = left }

begun : (bytes : List ℕ) (h : Head) (left : List Bool) → Begins bytes h left → reading head (from_byte 0 bytes)
    ≡ Ok (h, after left)
begun bytes h left b =
    ap (λ (t : List Bool). reading head (record { at = 0; bits = t })) b.parts
    ∙ complete head h b.fixed left 0 head_productive b.text
    ∙ ap (λ (n : ℕ). Ok (h, record { at = n; bits = left })) (omega (arith, head_length h b.fixed b.text))

version_row : (bytes : List ℕ) (h : Head) (left : List Bool) → Begins bytes h left → (h.version ≡ 2 → ⊥)
    → rtp_in bytes ≡ Err (stands faults.Version 0)
version_row bytes h left b other = few_is bytes b.few ∙ ap (with_head bytes) (begun bytes h left b)
    ∙ rw (ne_eqb h.version 2 other) refl

versioned : (bytes : List ℕ) (h : Head) (left : List Bool) → Begins bytes h left → h.version ≡ 2
    → rtp_in bytes ≡ with_end bytes h (end_of (reading (after_fixed h) (after left)))
versioned bytes h left b two = few_is bytes b.few ∙ ap (with_head bytes) (begun bytes h left b)
    ∙ rw (eq-eqb h.version 2 two) refl

-- the first bits as a field
first_field : (n : ℕ) (left : List Bool) → n ≤ length left → (v : ℕ) × (rest : List Bool) × (v < 2 ^ n)
    × (left ≡ spelled n v ++ rest)
first_field n left fits =
    let front = take n left in
    let len : length front ≡ n = omega (arith, length-take n left, fits) in
    let small : number front < 2 ^ n = subst (λ (k : ℕ). number front < 2 ^ k) len (number-lt front) in
    let text : spelled n (number front) ≡ front = subst (λ (k : ℕ). spelled k (number front) ≡ front) len
    (spelled-number front) in (
      number front,
      drop n left,
      small,
      sym (take-append-drop n left)
          ∙ ap (λ (t : List Bool). t ++ drop n left) (sym text),
    )

-- a list of bits in which a syntax is cut
abbrev IsCutIn : {A : Type 0} → Syntax A → List Bool → Type 0
IsCutIn s left = (front rest : List Bool) × (left ≡ front ++ rest) × ElementFaults s front rest faults.Ended

-- what ends inside the sources or the extension has a fault there
cut_extension : (left : List Bool) → EndsInExtension left → IsCutIn extension left
unfolding extension ElementFaults
cut_extension left (inl lt) =
    elim (cases_lt (length left) 16) [
      | inl few ↦ ([], left, refl, inl (refl, inl (few, refl)))
      | inr enough ↦
          let f = first_field 16 left enough in
          let len : length left ≡ 16 + length f.1 = ap length f.3 ∙ length-append (spelled 16 f.0) f.1
          ∙ ap (λ (n : ℕ). n + length f.1) (length-spelled 16 f.0) in
          let parts : left ≡ (spelled 16 f.0 ++ []) ++ f.1 = f.3
          ∙ ap (λ (t : List Bool). t ++ f.1) (sym (append-nil (spelled 16 f.0))) in (
            spelled 16 f.0 ++ [],
            f.1,
            parts,
            inr (f.0, [], f.2, refl, refl, inl (refl, inl (omega (arith, len, lt), refl))),
          )
    ]
cut_extension left (inr e) = (
  fields ((16, e.0) ∷ (16, e.1) ∷ []),
  e.2,
  e.5,
  inr (
    e.0,
    fields ((16, e.1) ∷ []),
    e.3,
    refl,
    refl,
    inr (e.1, [], e.4, refl, refl, inl (refl, inl (omega (arith, e.6), refl))),
  ),
)

cut_after : (h : Head) (left : List Bool) → EndsInside h left → IsCutIn (after_fixed h) left
unfolding after_fixed ElementFaults
cut_after h left (inl lt) = ([], left, refl, inl (refl, inl (omega (arith, lt), refl)))
cut_after h left (inr e) =
    let n = 8 * (4 * h.sources) in
    let c = cut_extension e.2 e.5 in
    let len : length e.1 ≡ n = omega (arith, e.3) in
    let small : number e.1 < 2 ^ n = subst (λ (k : ℕ). number e.1 < 2 ^ k) len (number-lt e.1) in
    let text : spelled n (number e.1) ≡ e.1 = subst (λ (k : ℕ). spelled k (number e.1)
    ≡ e.1) len (spelled-number e.1) in
    let more : ElementFaults (either (h.extension == 0) (done tt) extension) c.0 c.1 faults.Ended =
    subst (λ (t : Bool). ElementFaults (either t (done tt) extension) c.0 c.1 faults.Ended)
    (sym (ne_eqb h.extension 0 e.0))
    c.3 in
    let parts : left ≡ (e.1 ++ c.0) ++ c.1 = e.4 ∙ ap (λ (t : List Bool). e.1 ++ t) c.2
    ∙ sym (append_assoc e.1 c.0 c.1) in
    (e.1 ++ c.0, c.1, parts, inr (number e.1, c.0, small, refl, ap (λ (t : List Bool). t ++ c.0) (sym text), more))

short_after_fixed_row : (bytes : List ℕ) (h : Head) (left : List Bool) → Begins bytes h left → h.version ≡ 2
    → EndsInside h left → rtp_in bytes ≡ Err (stands faults.Short (8 * length bytes))
short_after_fixed_row bytes h left b two cut =
    let c = cut_after h left cut in
    versioned bytes h left b two
    ∙ ap (λ (t : List Bool). with_end bytes h (end_of (reading (after_fixed h) (after t)))) c.2
    ∙ ap (λ (r : Result (Unit {0} × Bits) Fault). with_end bytes h (end_of r))
    (fault_again (after_fixed h) 96 c.0 c.1 faults.Ended (after_fixed_productive h) c.3)

carried : (bytes : List ℕ) (h : Head) (rest : List ℕ) (c : Carries bytes h rest)
    → rtp_in bytes ≡ with_payload bytes h (length c.front) (payload_end_of h bytes (length c.front))
carried bytes h rest c = opened bytes c.front rest h c.few c.parts c.text c.version

-- the padding's count doesn't fit
no_end : (h : Head) (bytes : List ℕ) (from : ℕ) → (h.padding ≡ 0 → ⊥) → (slice_index bytes (length bytes - 1) ≡ 0)
    ⊎ (length bytes - from < slice_index bytes (length bytes - 1)) → payload_end_of h bytes from ≡ None
no_end h bytes from padded (inl z) = rw (ne_eqb h.padding 0 padded, eq-eqb (slice_index bytes (length bytes - 1)) 0 z)
    refl
no_end h bytes from padded (inr lt) = rw (
  ne_eqb h.padding 0 padded,
  lt-ltb (length bytes - from) (slice_index bytes (length bytes - 1)) lt,
)
    (either_way (slice_index bytes (length bytes - 1) == 0))
  where
    either_way : (t : Bool) → cond (t || true) None (Some (length bytes - slice_index bytes (length bytes - 1))) ≡ None
    either_way true = refl
    either_way false = refl

-- as many bytes as there are after the header
rest_is : (bytes : List ℕ) (h : Head) (rest : List ℕ) (c : Carries bytes h rest)
    → length rest ≡ length bytes - length c.front
rest_is bytes h rest c = omega (arith, ap length c.parts, length-append c.front rest)

padding_row : (bytes : List ℕ) (h : Head) (rest : List ℕ) → Carries bytes h rest → (h.padding ≡ 0 → ⊥)
    → (slice_index bytes (length bytes - 1) ≡ 0) ⊎ (length rest < slice_index bytes (length bytes - 1))
    → rtp_in bytes ≡ Err (stands faults.Padding (8 * length bytes - 8))
padding_row bytes h rest c padded bad =
    let last = slice_index bytes (length bytes - 1) in
    carried bytes h rest c ∙ ap (with_payload bytes h (length c.front)) (no_end h bytes (length c.front) padded
    (subst (λ (n : ℕ). (last ≡ 0) ⊎ (n < last)) (rest_is bytes h rest c) bad))

whole : (bytes : List ℕ) (h : Head) (w : IsWholePayload bytes h)
    → rtp_in bytes ≡ accepted_of h (length w.carries.front) (length w.carries.front + length w.payload)
whole bytes h w =
    let front = w.carries.front in
    let end : payload_end_of h bytes (length front) ≡ Some (length front + length w.payload) =
    payload_is h.padding bytes front w.payload w.padding w.carries.parts w.padded in
    carried bytes h (w.payload ++ w.padding) w.carries ∙ ap (with_payload bytes h (length front)) end

type_row : (bytes : List ℕ) (h : Head) → IsWholePayload bytes h → (h.type ≡ 96 → ⊥)
    → rtp_in bytes ≡ Err (stands faults.PayloadType 9)
type_row bytes h w other = whole bytes h w ∙ rw (ne_eqb h.type 96 other) refl

source_row : (bytes : List ℕ) (h : Head) → IsWholePayload bytes h → h.type ≡ 96 → (h.source ≡ 1211250227 → ⊥)
    → rtp_in bytes ≡ Err (stands faults.Source 64)
source_row bytes h w is other = whole bytes h w ∙ rw (eq-eqb h.type 96 is, ne_eqb h.source 1211250227 other) refl

of_row : (bytes : List ℕ) (kind : FaultKind) (at : ℕ) → IsRtpFault bytes kind at → rtp_in bytes ≡ Err (stands kind at)
of_row bytes kind at (long lt) = long_row bytes lt
of_row bytes kind at (short lt) = short_row bytes lt
of_row bytes kind at (version h left b other) = version_row bytes h left b other
of_row bytes kind at (short_after_fixed h left b two cut) = short_after_fixed_row bytes h left b two cut
of_row bytes kind at (padding h rest c padded bad) = padding_row bytes h rest c padded bad
of_row bytes kind at (type h w other) = type_row bytes h w other
of_row bytes kind at (source h w is other) = source_row bytes h w is other

-- ---- each packet is in a row of the table, or spells its header

no_fault : (kind : FaultKind) → None ≡ Some kind → ⊥
no_fault kind e = cc

nothing_left : {A : Type 0} (x : A) (front left : List Bool) (kind : FaultKind) → ElementFaults (done x) front left kind
    → ⊥
unfolding ElementFaults
nothing_left x front left kind f = f

-- a field that may have any number, and what comes after it
any_step : {A : Type 0} (n m : ℕ) (next : ℕ → Syntax A) (front left : List Bool) (kind : FaultKind)
    → ElementFaults (field n any next) front left kind
    → ((v : ℕ) (rest : List Bool) → ElementFaults (next v) rest left kind → length rest + length left < m)
    → length front + length left < n + m
unfolding ElementFaults
any_step n m next front left kind (inl (none, inl cut)) more = omega (arith, ap length none, cut.0)
any_step n m next front left kind (inl (none, inr refused)) more = absurd (no_fault kind refused.4)
any_step n m next front left kind (inr f) more =
    omega (arith, ap length f.4, length-append (spelled n f.0) f.1, length-spelled n f.0, more f.0 f.1 f.5)

-- a fixed header has no fault but that it is cut
cut_head : (front left : List Bool) (kind : FaultKind) → ElementFaults head front left kind
    → length front + length left < 96
unfolding head
cut_head front left kind f =
    any_step 2 94 _ front left kind f λ version r f. any_step 1 93 _ r left kind f λ padding r f. any_step 1 92
    _ r left kind f λ extension r f.
    any_step 4 88 _ r left kind f λ sources r f. any_step 1 87 _ r left kind f λ marker r f. any_step 7 80
    _ r left kind f λ type r f.
    any_step 16 64 _ r left kind f λ sequence r f. any_step 32 32 _ r left kind f λ timestamp r f. any_step 32 0
    _ r left kind f λ source r f. absurd (nothing_left _ r left kind f)

-- what an extension that has a fault ends inside of
extension_found : (front left : List Bool) (kind : FaultKind) → ElementFaults extension front left kind
    → EndsInExtension (front ++ left)
unfolding extension ElementFaults
extension_found front left kind (inl (none, inl cut)) = inl (omega (
  arith,
  length-append front left,
  ap length none,
  cut.0,
))
extension_found front left kind (inl (none, inr refused)) = absurd (no_fault kind refused.4)
extension_found front left kind (inr (profile, rest, p, ok, parts, inl (none, inl cut))) =
    inl (omega (
      arith,
      length-append front left,
      ap length parts,
      length-append (spelled 16 profile) rest,
      length-spelled 16 profile,
      ap length none,
      cut.0,
    ))
extension_found front left kind (inr (profile, rest, p, ok, parts, inl (none, inr refused))) =
    absurd (no_fault kind refused.4)
extension_found front left kind (inr (
  profile,
  rest,
  p,
  ok,
  parts,
  inr (words, rest2, w, ok2, parts2, inl (none, inl cut)),
)) =
    let text : front ≡ fields ((16, profile) ∷ (16, words) ∷ []) =
    parts ∙ ap (λ (t : List Bool). spelled 16 profile ++ t) (parts2
    ∙ ap (λ (t : List Bool). spelled 16 words ++ t) none) in
    inr (profile, words, left, p, w, ap (λ (t : List Bool). t ++ left) text, omega (arith, cut.0))
extension_found front left kind (inr (
  profile,
  rest,
  p,
  ok,
  parts,
  inr (words, rest2, w, ok2, parts2, inl (none, inr refused)),
)) = absurd (no_fault kind refused.4)
extension_found front left kind (inr (profile, rest, p, ok, parts, inr (words, rest2, w, ok2, parts2, inr f))) =
    absurd f.5

after_fixed_found : (h : Head) (front left : List Bool) (kind : FaultKind)
    → ElementFaults (after_fixed h) front left kind
    → EndsInside h (front ++ left)
unfolding after_fixed ElementFaults
after_fixed_found h front left kind (inl (none, inl cut)) = inl (omega (
  arith,
  length-append front left,
  ap length none,
  cut.0,
))
after_fixed_found h front left kind (inl (none, inr refused)) = absurd (no_fault kind refused.4)
after_fixed_found h front left kind (inr (v, rest, small, ok, parts, f)) = at_extension (h.extension == 0) refl f
  where
    n : ℕ
    n = 8 * (4 * h.sources)

    at_extension : (t : Bool) → (h.extension == 0) ≡ t → ElementFaults (either t (done tt) extension) rest left kind
        → EndsInside h (front ++ left)
    at_extension true e g = absurd g
    at_extension false e g =
        let text : front ++ left ≡ spelled n v ++ (rest ++ left) = ap (λ (t : List Bool). t ++ left) parts
        ∙ append_assoc (spelled n v) rest left in
        inr (
          eqb-false h.extension 0 e,
          spelled n v,
          rest ++ left,
          omega (arith, length-spelled n v),
          text,
          extension_found rest left kind g,
        )

-- the bytes are in a row of the table, or spell a header
abbrev Stands : List ℕ → Type 0
Stands bytes = ((kind : FaultKind) × (at : ℕ) × IsRtpFault bytes kind at) ⊎ ((r : Rtp) × IsRtp r bytes)

row : {bytes : List ℕ} (kind : FaultKind) (at : ℕ) → IsRtpFault bytes kind at → Stands bytes
row kind at r = inl (kind, at, r)

-- with payload and padding
at_type : (bytes : List ℕ) (h : Head) → IsWholePayload bytes h → Stands bytes
at_type bytes h w = by (h.type == 96) refl (h.source == 1211250227) refl
  where
    by : (a : Bool) → (h.type == 96) ≡ a → (b : Bool) → (h.source == 1211250227) ≡ b → Stands bytes
    by false e b f = row faults.PayloadType 9 (type h w (eqb-false h.type 96 e))
    by true e false f = row faults.Source 64 (source h w (eqb-true h.type 96 e) (eqb-false h.source 1211250227 f))
    by true e true f = inr (
      _,
      record {
        fields = h;
        front = w.carries.front;
        payload = w.payload;
        padding = w.padding;
        parts = w.carries.parts;
        short = w.carries.few;
        text = w.carries.text;
        version = w.carries.version;
        type = eqb-true h.type 96 e;
        source = eqb-true h.source 1211250227 f;
        padded = w.padded;
        value = refl;
      },
    )

-- where no payload ends
none_is : (a b c : Bool) (x y : ℕ) → cond a (Some x) (cond (b || c) None (Some y)) ≡ None
    → (a ≡ false) × ((b ≡ true) ⊎ (c ≡ true))
none_is true b c x y e = absurd cc
none_is false true c x y e = (refl, inl refl)
none_is false false true x y e = (refl, inr refl)
none_is false false false x y e = absurd cc

at_end : (bytes : List ℕ) (h : Head) (from : ℕ) → from ≤ length bytes → Carries bytes h (drop from bytes) → Stands bytes
at_end bytes h from fits c = by (payload_end_of h bytes from) refl
  where
    last : ℕ
    last = slice_index bytes (length bytes - 1)

    by : (o : Option ℕ) → payload_end_of h bytes from ≡ o → Stands bytes
    by None e =
        let n = none_is (h.padding == 0) (last == 0) (nat_lt (length bytes - from) last) (length bytes)
        (length bytes - last) e in
        let bad : (last ≡ 0) ⊎ (length (drop from bytes) < last) =
        elim n.1 [
          | inl zero ↦ inl (eqb-true last 0 zero)
          | inr more ↦ inr (omega (arith, length-drop from bytes, ltb-true (length bytes - from) last more))
        ] in
        row faults.Padding (8 * length bytes - 8) (padding h (drop from bytes) c (eqb-false h.padding 0 n.0) bad)
    by (Some to) e =
        let p = padding_ok h.padding bytes from to fits e in
        at_type bytes h (record {
          payload = p.payload;
          padding = p.padding;
          carries = subst (λ (t : List ℕ). Carries bytes h t) p.parts c;
          padded = p.text;
        })

at_after_fixed : (bytes : List ℕ) (h : Head) (b : Bits) → length bytes ≤ 65535 → reading head (from_byte 0 bytes)
    ≡ Ok (h, b) → h.version ≡ 2 → Begins bytes h b.bits → Stands bytes
at_after_fixed bytes h b few is two begins = by (reading (after_fixed h) b) refl
  where
    by : (r : Result (Unit {0} × Bits) Fault) → reading (after_fixed h) b ≡ r → Stands bytes
    by (Err d) e =
        let f = fault_found (after_fixed h) b d (after_fixed_productive h) e in
        let cut : EndsInside h b.bits = subst (λ (t : List Bool). EndsInside h t) (sym f.2)
        (after_fixed_found h f.0 f.1 d.kind f.4) in
        row faults.Short (8 * length bytes) (short_after_fixed h b.bits begins two cut)
    by (Ok x) e =
        let from = x.1.at / 8 in
        let front = front_is h bytes b x.1 is e in
        at_end bytes h from front.fits (record {
          few = few;
          version = two;
          front = take from bytes;
          text = front.text;
          parts = sym (take-append-drop from bytes);
        })

at_head : (bytes : List ℕ) → length bytes ≤ 65535 → 12 ≤ length bytes → Stands bytes
at_head bytes few enough = by (reading head (from_byte 0 bytes)) refl
  where
    by : (r : Result (Head × Bits) Fault) → reading head (from_byte 0 bytes) ≡ r → Stands bytes
    by (Err d) e =
        let f = fault_found head (from_byte 0 bytes) d head_productive e in
        absurd (omega (arith, cut_head f.0 f.1 d.kind f.4, ap length f.2, length-append f.0 f.1, length-bits_of bytes))
    by (Ok x) e =
        let s = sound head (from_byte 0 bytes) x.1 x.0 e in
        let begins : Begins bytes x.0 x.1.bits = record { few = few; fixed = s.0; text = s.2; parts = s.1.parts } in
        versioned_or (x.0.version == 2) refl e begins
      where
        versioned_or : (t : Bool) → (x.0.version == 2) ≡ t → reading head (from_byte 0 bytes) ≡ Ok x
            → Begins bytes x.0 x.1.bits → Stands bytes
        versioned_or true e is begins = at_after_fixed bytes x.0 x.1 few is (eqb-true x.0.version 2 e) begins
        versioned_or false e is begins = row faults.Version 0 (version x.0 x.1.bits begins (eqb-false x.0.version 2 e))

each_stands : (bytes : List ℕ) → Stands bytes
each_stands bytes =
    elim (cases_lt 65535 (length bytes)) [
      | inl lt ↦ row faults.Long 0 (long lt)
      | inr few ↦ elim (cases_lt (length bytes) 12) [
        | inl lt ↦ row faults.Short (8 * length bytes) (short lt)
        | inr enough ↦ at_head bytes few enough
      ]
    ]

to_row : (bytes : List ℕ) (fault : Fault) → Stands bytes → rtp_in bytes ≡ Err fault
    → IsRtpFault bytes fault.kind fault.at
to_row bytes fault (inl r) e =
    let same : stands r.0 r.1 ≡ fault = err_is {A = Rtp} (stands r.0 r.1) fault (sym (of_row bytes r.0 r.1 r.2) ∙ e) in
    subst (λ (d : Fault). IsRtpFault bytes d.kind d.at) same r.2
to_row bytes fault (inr r) e = absurd (err_not_ok fault r.0 (sym e ∙ text_read r.0 bytes r.1))

pub first_faults : (bytes : List ℕ) (fault : Fault) → (rtp_in bytes ≡ Err fault) ↔ IsRtpFault bytes fault.kind fault.at
first_faults bytes fault = (λ e. to_row bytes fault (each_stands bytes) e, λ r. of_row bytes fault.kind fault.at r)
