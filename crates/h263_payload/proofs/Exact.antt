-- Bits are read as a payload exactly where they spell it.
use Rattle.std.proofs.Common.{◌≡◌, ℕ, ◌+◌, ◌-◌, ◌*◌, ◌<◌, ◌≤◌, Bool, true, false, cond, List, [], ◌∷◌, ◌++◌, length, take, drop, Option, Some, None, Result, Ok, Err, refl, sym, ap, subst, ◌∙◌, append_assoc, arith}
use Rattle.std.specs.Prelude.{◌==◌, nat_lt, not, is_none}
use Rattle.std.proofs.lemmas.Bool.{ltb-false, le-ltb, eqb-true, eqb-false, ne_eqb}
use Rattle.std.proofs.lemmas.List.{append-nil, length-append, length-drop, length-take, take_at, drop_at, take-append-drop}
use Rattle.h263_bits.specs.declared.fault.Fault.{Fault}
use Rattle.h263_bits.specs.declared.fault.FaultKind.TheVariants as faults
use Rattle.h263_bits.specs.Bits.{spelled}
use Rattle.h263_bits.specs.Reading.{Bits, number_at, skip, ok, err, ◌>>=◌}
use Rattle.h263_bits.specs.Syntax.{reading, any, done, field, either, Spells, IsProductive}
use Rattle.h263_bits.proofs.SyntaxLaws.{passed_if, passed_unless, length-spelled, take-take, bind_ok, sound, complete, number_takes, number_again, either_productive, ok_is, err_not_ok}
use Rattle.h263_types.specs.declared.format.Format.{Format}
use Rattle.picture_header.specs.declared.header.Header.{Header}
use Rattle.picture_header.specs.Text.{header}
use Rattle.picture_header.specs.Laws.{HeaderLaws}
use Rattle.h263_payload.specs.declared.payload.Opening.{Opening}
use Rattle.h263_payload.specs.declared.payload.Payload.{Payload}
use Rattle.h263_payload.specs.Text.{payload_opening, leading, IsExtra, IsStartCodeRest, IsPayload}
use Rattle.h263_payload.specs.Ranges.{IsPayloadOpening}
use Rattle.h263_payload.specs.Faults.{first_bits, filled, extra_at, begun_as, begun_at, payload_at}

-- ---- the first fields

pub record IsLeading (o : Opening) (bits : List Bool) : Type 0 where
  pub range : IsPayloadOpening o
  pub long : 16 ≤ length bits

opening_is : (follow_on : Bool) (o : Opening) (bits : List Bool) → Spells (payload_opening follow_on) o bits
    → IsLeading o bits
unfolding payload_opening Spells
opening_is follow_on o bits s =
    let rr = s.5 in
    let p = rr.5 in
    let v = p.5 in
    let plen = v.5 in
    let value : Opening = record { p = rr.0 == 1; v = p.0 == 1; plen = v.0; pebit = plen.0 } in
    let same : o ≡ value = plen.5.0 in
    let range : IsPayloadOpening value = record { plen = v.2; pebit = plen.2 } in
    record {
      range = subst IsPayloadOpening (sym same) range;
      long = omega (
        arith,
        ap length s.4,
        length-append (spelled 5 s.0) s.1,
        length-spelled 5 s.0,
        ap length rr.4,
        length-append (spelled 1 rr.0) rr.1,
        length-spelled 1 rr.0,
        ap length p.4,
        length-append (spelled 1 p.0) p.1,
        length-spelled 1 p.0,
        ap length v.4,
        length-append (spelled 6 v.0) v.1,
        length-spelled 6 v.0,
        ap length plen.4,
        length-append (spelled 3 plen.0) plen.1,
        length-spelled 3 plen.0,
      );
    }

pub leading_is : (o : Opening) (bits : List Bool) → Spells leading o bits → IsLeading o bits
unfolding leading Spells
leading_is o bits s =
    let first = opening_is false s.0 s.1 s.4 in
    let same : o ≡ s.0 = value s.0.v s.2 s.6 in
    record {
      range = subst IsPayloadOpening (sym same) first.range;
      long = omega (arith, first.long, ap length s.3, length-append s.1 s.2);
    }
  where
    value : (t : Bool) (rest : List Bool) → Spells (either t (field 8 any (λ redundancy. done s.0)) (done s.0)) o rest
        → o ≡ s.0
    value true rest h = h.5.0
    value false rest h = h.0

pub leading_productive : IsProductive leading
unfolding leading payload_opening IsProductive
leading_productive = (
  λ rr p v plen pebit. tt,
  λ o. either_productive o.v (field 8 any (λ redundancy. done o)) (done o)
      (λ w. one o) (one o),
)
  where
    one : (o : Opening) → IsProductive (done o)
    one o = tt

-- ---- the extra header

pub record IsMiddle (format : Format) (plen pebit : ℕ) (extra : Option Header) (b : Bits) : Type 0 where
  pub fits : 8 * plen ≤ length b.bits
  pub text : IsExtra format plen pebit extra (take (8 * plen) b.bits)

record IsFilled (found : Result (Header × Bits) Fault) (extra : Option Header) : Type 0 where
  header : Header
  rest : Bits
  read : found ≡ Ok (header, rest)
  none : rest.bits ≡ []
  value : extra ≡ Some header

pub empty : {A : Type 0} (xs : List A) → length xs ≡ 0 → xs ≡ []
empty [] e = refl
empty (x ∷ xs) e = absurd (omega arith)

filled_ok : (r : Result (Header × Bits) Fault) (extra : Option Header) → filled r ≡ Ok extra → IsFilled r extra
filled_ok (Ok x) extra e =
    let p = passed_unless (length x.1.bits == 0) _ (ok (Some x.0)) extra e in
    record {
      header = x.0;
      rest = x.1;
      read = refl;
      none = empty x.1.bits (eqb-true (length x.1.bits) 0 p.0);
      value = sym (ok_is (Some x.0) extra p.1);
    }
filled_ok (Err f) extra e = absurd (err_not_ok f extra e)

pub extra_ok : (format : Format) (plen pebit : ℕ) (extra : Option Header) (b : Bits) → pebit < 8
    → extra_at format plen pebit b ≡ Ok extra → IsMiddle format plen pebit extra b
unfolding extra_at
extra_ok format plen pebit extra b low e = at_none (plen == 0) refl e
  where
    some : 0 < plen → 8 * plen ≤ length b.bits
        → IsFilled (reading (header format) (first_bits (8 * plen - pebit) b)) extra
        → IsMiddle format plen pebit extra b
    some there fits f =
        let n = 8 * plen - pebit in
        let s = sound (header format) (first_bits n b) f.rest f.header f.read in
        let middle = take (8 * plen) b.bits in
        let front : take n middle ≡ s.0 = take-take n (8 * plen) b.bits (omega arith) fits ∙ s.1.parts
        ∙ ap (λ (t : List Bool). s.0 ++ t) f.none ∙ append-nil s.0 in
        let text : IsExtra format plen pebit (Some f.header) middle = (
          s.0,
          drop n middle,
          sym (take-append-drop n middle) ∙ ap (λ (t : List Bool). t ++ drop n middle) front,
          there,
          omega (arith, length-take (8 * plen) b.bits),
          omega (arith, length-drop n middle, length-take (8 * plen) b.bits),
          s.2,
        ) in
        record {
          fits = fits;
          text = subst (λ (o : Option Header). IsExtra format plen pebit o middle)
              (sym f.value) text;
        }

    at_none : (t : Bool) → (plen == 0) ≡ t
        → cond t (ok None) (cond (nat_lt (length b.bits) (8 * plen)) (err (record { kind = faults.Ended; at = b.at }))
        (filled (reading (header format) (first_bits (8 * plen - pebit) b)))) ≡ Ok extra
        → IsMiddle format plen pebit extra b
    at_none true h e =
        let zero_plen : plen ≡ 0 = eqb-true plen 0 h in
        let text : IsExtra format plen pebit None (take (8 * plen) b.bits) =
        (zero_plen, ap (λ (n : ℕ). take (8 * n) b.bits) zero_plen) in
        record {
          fits = omega (arith, zero_plen);
          text = subst (λ (o : Option Header). IsExtra format plen pebit o (take (8 * plen) b.bits))
              (ok_is None extra e) text;
        }
    at_none false h e =
        let p = passed_if (nat_lt (length b.bits) (8 * plen)) _
        (filled (reading (header format) (first_bits (8 * plen - pebit) b))) extra e in
        some (omega (arith, eqb-false plen 0 h)) (ltb-false (length b.bits) (8 * plen) p.0)
        (filled_ok (reading (header format) (first_bits (8 * plen - pebit) b)) extra p.1)

-- ---- the data's first two bits

record IsStart (extra : Option Header) (b : Bits) (p : Payload) : Type 0 where
  begun : IsStartCodeRest p.begins b.bits
  value : p ≡ record { extra = extra; begins = is_none extra; from = b.at }

pub two_is : spelled 2 2 ≡ true ∷ false ∷ []
unfolding spelled
two_is = refl

pub three_is : spelled 2 3 ≡ true ∷ true ∷ []
unfolding spelled
three_is = refl

start_of : (extra : Option Header) (b : Bits) (p : Payload) (begins : Bool) (v : ℕ) (c : Bits)
    → b.bits ≡ spelled 2 v ++ c.bits → spelled 2 v ≡ true ∷ not begins ∷ [] → is_none extra ≡ begins
    → p ≡ record { extra = extra; begins = begins; from = b.at } → IsStart extra b p
start_of extra b p begins v c parts two none value =
    let coded : IsStartCodeRest begins b.bits = (c.bits, parts ∙ ap (λ (t : List Bool). t ++ c.bits) two) in
    record {
      begun = subst (λ (q : Payload). IsStartCodeRest q.begins b.bits) (sym value) coded;
      value = value ∙ ap (λ (t : Bool). record { extra = extra; begins = t; from = b.at }) (sym none);
    }

abbrev begun : Option Header → ℕ → Bool → Payload
begun extra at begins = record { extra = extra; begins = begins; from = at }

abbrev if_picture : Option Header → ℕ → Result Payload Fault
if_picture extra at = cond (is_none extra) (ok (begun extra at true)) (err (record {
  kind = faults.ExtraHeader;
  at = at;
}))

abbrev if_slice : Option Header → ℕ → Result Payload Fault
if_slice extra at = cond (is_none extra) (err (record { kind = faults.NoExtraHeader; at = at }))
    (ok (begun extra at false))

begun_ok : (extra : Option Header) (b : Bits) (p : Payload) → begun_at extra b ≡ Ok p → IsStart extra b p
unfolding begun_at
begun_ok extra b p e =
    let one = bind_ok (number_at 2 b) (λ x. begun_as extra b.at x.0) p e in
    let v = one.0.0 in
    let c = one.0.1 in
    let t = number_takes 2 v b c one.1 in
    let high = passed_if (nat_lt v 2) _ (cond (v == 2) (if_picture extra b.at) (if_slice extra b.at)) p one.2 in
    at_two v c t.0.parts (omega (arith, t.1)) (ltb-false v 2 high.0) (v == 2) refl high.1
  where
    at_two : (v : ℕ) (c : Bits) → b.bits ≡ spelled 2 v ++ c.bits → v < 4 → 2 ≤ v → (t : Bool) → (v == 2) ≡ t
        → cond t (if_picture extra b.at) (if_slice extra b.at) ≡ ok p → IsStart extra b p
    at_two v c parts low high true h e =
        let q = passed_unless (is_none extra) _ (ok (begun extra b.at true)) p e in
        start_of extra b p true v c parts (ap (spelled 2) (eqb-true v 2 h)
        ∙ two_is) q.0 (sym (ok_is (begun extra b.at true) p q.1))
    at_two v c parts low high false h e =
        let q = passed_if (is_none extra) _ (ok (begun extra b.at false)) p e in
        let three : v ≡ 3 = omega (arith, eqb-false v 2 h) in
        start_of extra b p false v c parts (ap (spelled 2) three
        ∙ three_is) q.0 (sym (ok_is (begun extra b.at false) p q.1))

pub read_text : (format : Format) (p : Payload) (b : Bits) → payload_at format b ≡ Ok p → IsPayload format p b
unfolding payload_at
read_text format p b e =
    let one = bind_ok (reading leading b) (λ x. extra_at format x.0.plen x.0.pebit x.1 >>=
    λ extra. begun_at extra (skip (8 * x.0.plen) x.1)) p e in
    let x = one.0.0 in
    let c = one.0.1 in
    let n = 8 * x.plen in
    let two = bind_ok (extra_at format x.plen x.pebit c) (λ extra. begun_at extra (skip n c)) p one.2 in
    let front = sound leading b c x one.1 in
    let middle = extra_ok format x.plen x.pebit two.0 c (leading_is x front.0 front.2).range.pebit two.1 in
    let start = begun_ok two.0 (skip n c) p two.2 in
    let extra : p.extra ≡ two.0 = ap (λ (q : Payload). q.extra) start.value in
    record {
      opening = x;
      front = front.0;
      middle = take n c.bits;
      coded = drop n c.bits;
      parts = front.1.parts ∙ ap (λ (t : List Bool). front.0 ++ t) (sym (take-append-drop n c.bits));
      opened = front.2;
      extra = subst (λ (o : Option Header). IsExtra format x.plen x.pebit o (take n c.bits)) (sym extra) middle.text;
      begun = start.begun;
      begins = ap (λ (q : Payload). q.begins) start.value ∙ ap (λ (o : Option Header). is_none o) (sym extra);
      from = ap (λ (q : Payload). q.from) start.value ∙ omega (arith, front.1.at, length-take n c.bits, middle.fits);
    }

-- ---- what spells a payload is read

pub record IsReadMiddle (format : Format) (plen pebit : ℕ) (extra : Option Header) (at : ℕ)
    (middle coded : List Bool) : Type 0 where
  pub len : length middle ≡ 8 * plen
  pub read : extra_at format plen pebit (record { at = at; bits = middle ++ coded }) ≡ Ok extra

pub extra_again : HeaderLaws
    → (format : Format) (plen pebit : ℕ) (extra : Option Header) (at : ℕ) (middle coded : List Bool)
    → IsExtra format plen pebit extra middle → IsReadMiddle format plen pebit extra at middle coded
unfolding extra_at
extra_again laws format plen pebit None at middle coded t = record {
  len = omega (arith, ap length t.1, t.0);
  read = rw t.0 refl;
}
extra_again laws format plen pebit (Some h) at middle coded t =
    let text = t.0 in
    let rest = t.1 in
    let len : length middle ≡ 8 * plen = t.4 in
    let size : length text ≡ 8 * plen - pebit = omega (arith, ap length t.2, length-append text rest, len, t.5) in
    let first : take (8 * plen - pebit) (middle ++ coded) ≡ text ++ [] =
    ap (λ (x : List Bool). take (8 * plen - pebit) (x ++ coded)) t.2
    ∙ ap (take (8 * plen - pebit)) (append_assoc text rest coded)
    ∙ take_at text (rest ++ coded) (8 * plen - pebit) size ∙ sym (append-nil text) in
    let read : reading (header format) (first_bits (8 * plen - pebit) (record { at = at; bits = middle ++ coded }))
    ≡ Ok (h, record { at = at + length text; bits = [] }) =
    ap (λ (x : List Bool). reading (header format) (record { at = at; bits = x })) first
    ∙ complete (header format) h text [] at (laws.productive format) t.6 in
    record {
      len = len;
      read = rw (
        ne_eqb plen 0 (λ same. omega (arith, same, t.3)),
        le-ltb (length (middle ++ coded)) (8 * plen) (omega (arith, len, length-append middle coded)),
        read,
      ) refl;
    }

begun_again : (extra : Option Header) (begins : Bool) (at : ℕ) (rest : List Bool) → begins ≡ is_none extra
    → begun_at extra (record { at = at; bits = true ∷ not begins ∷ rest })
    ≡ Ok (record { extra = extra; begins = begins; from = at })
unfolding begun_at
begun_again extra true at rest e =
    let two : number_at 2 (record { at = at; bits = true ∷ false ∷ rest })
    ≡ Ok (2, record { at = at + length (spelled 2 2); bits = rest }) =
    ap (λ (t : List Bool). number_at 2 (record { at = at; bits = t ++ rest })) (sym two_is)
    ∙ number_again 2 2 at rest (omega arith) in
    rw (two, ← e) refl
begun_again extra false at rest e =
    let three : number_at 2 (record { at = at; bits = true ∷ true ∷ rest })
    ≡ Ok (3, record { at = at + length (spelled 2 3); bits = rest }) =
    ap (λ (t : List Bool). number_at 2 (record { at = at; bits = t ++ rest })) (sym three_is)
    ∙ number_again 2 3 at rest (omega arith) in
    rw (three, ← e) refl

-- a payload that the bits spell is read
pub text_read : HeaderLaws → (format : Format) (p : Payload) (b : Bits) → IsPayload format p b
    → payload_at format b ≡ Ok p
unfolding payload_at
text_read laws format p b s =
    let at = b.at + length s.front in
    let one : reading leading b ≡ Ok (s.opening, record { at = at; bits = s.middle ++ s.coded }) =
    ap (λ (t : List Bool). reading leading (record { at = b.at; bits = t })) s.parts
    ∙ complete leading s.opening s.front (s.middle ++ s.coded) b.at leading_productive s.opened in
    let two = extra_again laws format s.opening.plen s.opening.pebit p.extra at s.middle s.coded s.extra in
    let coded : drop (8 * s.opening.plen) (s.middle ++ s.coded) ≡ true ∷ not p.begins ∷ s.begun.0 =
    drop_at s.middle s.coded (8 * s.opening.plen) two.len ∙ s.begun.1 in
    let place : at + 8 * s.opening.plen ≡ p.from = omega (arith, s.from, two.len) in
    rw (one, two.read, coded, place) (begun_again p.extra p.begins p.from s.begun.0 s.begins)
