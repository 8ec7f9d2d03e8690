-- A payload has its first fault where a row of the table has it, and nowhere else.
use Rattle.std.proofs.Common.{◌≡◌, ◌⊎◌, ℕ, ◌+◌, ◌-◌, ◌*◌, ◌<◌, ◌≤◌, Bool, true, false, refl, sym, ap, subst, ◌∙◌, append_assoc, arith, inl, inr, List, [], ◌∷◌, ◌++◌, length, take, drop, Option, Some, None, Result, Ok, Err}
use Rattle.std.specs.Prelude.{◌==◌, ◌↔◌, not, is_none}
use Rattle.std.proofs.lemmas.Bool.{cases_lt, lt-ltb, le-ltb, eqb-true, eqb-false, ne_eqb}
use Rattle.std.proofs.lemmas.List.{append-nil, length-append, length-take, length-drop, take_at, drop_at, take-append-drop}
use Rattle.h263_types.specs.declared.format.Format.{Format}
use Rattle.h263_bits.specs.declared.fault.Fault.{Fault}
use Rattle.h263_bits.specs.declared.fault.FaultKind.{FaultKind}
use Rattle.h263_bits.specs.declared.fault.FaultKind.TheVariants as faults
use Rattle.h263_bits.specs.Bits.{spelled, fields}
use Rattle.h263_bits.specs.Reading.{Bits, number_at, skip, ◌>>=◌}
use Rattle.h263_bits.specs.Syntax.{reading, any}
use Rattle.h263_bits.specs.Elements.{HasFault}
use Rattle.h263_bits.proofs.SyntaxLaws.{stands, err_is, err_not_ok, sound, complete, number_again, first_fault_is, fault_in_part, fault_after_field, fault_here}
use Rattle.picture_header.specs.declared.header.Header.{Header}
use Rattle.picture_header.specs.Text.{header, IsHeaderText}
use Rattle.picture_header.specs.Laws.{HeaderLaws}
use Rattle.h263_payload.specs.declared.payload.Opening.{Opening}
use Rattle.h263_payload.specs.declared.payload.Payload.{Payload}
use Rattle.h263_payload.specs.Text.{may_follow, payload_opening, leading, IsPayload}
use Rattle.h263_payload.specs.Faults.{first_bits, filled, extra_at, begun_at, payload_at}
use Rattle.h263_payload.specs.Rows.{from, Leads, ReachesData, IsPayloadFault, in_leading, cut_extra, in_extra, left_over, cut_data, no_start, picture, slice}
use Rattle.h263_payload.proofs.Exact.{leading_is, leading_productive, empty, extra_again, text_read, two_is, three_is}

-- ---- what a row has is found

leading_row : (format : Format) (b : Bits) (fault : Fault) → reading leading b ≡ Err fault
    → payload_at format b ≡ Err fault
unfolding payload_at
leading_row format b fault e = rw e refl

pub p_row : (rr : ℕ) → rr < 32 → HasFault leading (fields ((5, rr) ∷ (1, 0) ∷ [])) faults.FollowOn 5
unfolding leading payload_opening
p_row rr lt =
    fault_in_part (payload_opening false) any _ (fields ((5, rr) ∷ (1, 0) ∷ [])) faults.FollowOn 5
    (fault_after_field 5 any _ rr (fields ((1, 0) ∷ [])) faults.FollowOn 0 lt refl
    (fault_here 1 (may_follow false) _ 0 [] faults.FollowOn (omega arith) refl))

abbrev after_extra : Opening → Bits → Result (Option Header) Fault → Result Payload Fault
after_extra o b extra = extra >>= λ x. begun_at x (skip (8 * o.plen) b)

after_leading : (format : Format) (b : Bits) (o : Opening) (at : ℕ) (left : List Bool) → Leads b o at left
    → payload_at format b ≡ after_extra o (from at left) (extra_at format o.plen o.pebit (from at left))
unfolding payload_at
after_leading format b o at left l =
    let read : reading leading b ≡ Ok (o, from at left) =
    ap (λ (t : List Bool). reading leading (from b.at t)) l.parts
    ∙ complete leading o l.front left b.at leading_productive l.text
    ∙ ap (λ (n : ℕ). Ok (o, from n left)) (sym l.place) in
    rw read refl

extra_cut : (format : Format) (plen pebit : ℕ) (b : Bits) → 0 < plen → length b.bits < 8 * plen
    → extra_at format plen pebit b ≡ Err (stands faults.Ended b.at)
unfolding extra_at
extra_cut format plen pebit b some lt = rw (
  ne_eqb plen 0 (λ e. omega (arith, e, some)),
  lt-ltb (length b.bits) (8 * plen) lt,
) refl

extra_is : (format : Format) (plen pebit : ℕ) (b : Bits) → 0 < plen → 8 * plen ≤ length b.bits
    → extra_at format plen pebit b ≡ filled (reading (header format) (first_bits (8 * plen - pebit) b))
unfolding extra_at
extra_is format plen pebit b some le = rw (
  ne_eqb plen 0 (λ e. omega (arith, e, some)),
  le-ltb (length b.bits) (8 * plen) le,
) refl

cut_row : (format : Format) (b : Bits) (o : Opening) (at : ℕ) (left : List Bool) → Leads b o at left → 0 < o.plen
    → length left < 8 * o.plen → payload_at format b ≡ Err (stands faults.Ended at)
cut_row format b o at left l some lt = after_leading format b o at left l
    ∙ ap (after_extra o (from at left)) (extra_cut format o.plen o.pebit (from at left) some lt)

-- the extra header's bits, less the last ones
less : (o : Opening) (extra left : List Bool) → length extra + o.pebit ≡ 8 * o.plen
    → take (8 * o.plen - o.pebit) (extra ++ left) ≡ extra
less o extra left size = take_at extra left (8 * o.plen - o.pebit) (omega (arith, size))

header_row : (format : Format) (b : Bits) (o : Opening) (start : ℕ) (extra left : List Bool) (fault : Fault)
    → Leads b o start (extra ++ left) → 0 < o.plen
    → length extra + o.pebit ≡ 8 * o.plen → o.pebit ≤ length left → reading (header format) (from start extra)
    ≡ Err fault → payload_at format b ≡ Err fault
header_row format b o start extra left fault l some size there e =
    let c = from start (extra ++ left) in
    let read : reading (header format) (first_bits (8 * o.plen - o.pebit) c)
    ≡ Err fault = ap (λ (t : List Bool). reading (header format) (from start t)) (less o extra left size) ∙ e in
    after_leading format b o start (extra ++ left) l
    ∙ ap (after_extra o c) (extra_is format o.plen o.pebit c some (omega (
      arith,
      length-append extra left,
      size,
      there,
    )) ∙ ap filled read)

over : (h : Header) (c : Bits) → 0 < length c.bits → filled (Ok (h, c)) ≡ Err (stands faults.ExtraHeader c.at)
over h c some = rw (ne_eqb (length c.bits) 0 (λ e. omega (arith, e, some))) refl

left_over_row : HeaderLaws
    → (format : Format) (b : Bits) (o : Opening) (start : ℕ) (h : Header) (text more left : List Bool)
    → Leads b o start (text ++ (more ++ left)) → 0 < o.plen → IsHeaderText format h text
    → 0 < length more → length text + length more + o.pebit ≡ 8 * o.plen → o.pebit ≤ length left
    → payload_at format b ≡ Err (stands faults.ExtraHeader (start + length text))
left_over_row laws format b o start h text more left l some t extra size there =
    let whole = text ++ (more ++ left) in
    let c = from start whole in
    let regroup : whole ≡ (text ++ more) ++ left = sym (append_assoc text more left) in
    let both : length (text ++ more) + o.pebit ≡ 8 * o.plen = omega (arith, length-append text more, size) in
    let len : length whole ≡ length (text ++ more) + length left = ap length regroup
    ∙ length-append (text ++ more) left in
    let read : reading (header format) (first_bits (8 * o.plen - o.pebit) c) ≡ Ok (h, from (start + length text) more) =
    ap (λ (x : List Bool). reading (header format) (from start x)) (ap (take (8 * o.plen - o.pebit)) regroup
    ∙ less o (text ++ more) left both) ∙ complete (header format) h text more start (laws.productive format) t in
    after_leading format b o start whole l
    ∙ ap (after_extra o c) (extra_is format o.plen o.pebit c some (omega (arith, len, both, there)) ∙ ap filled read
    ∙ over h (from (start + length text) more) extra)

-- the data's first two bits

zero_is : spelled 2 0 ≡ false ∷ false ∷ []
unfolding spelled
zero_is = refl

one_is : spelled 2 1 ≡ false ∷ true ∷ []
unfolding spelled
one_is = refl

-- a number of two bits
two_bits : (v at : ℕ) (a b : Bool) (rest : List Bool) → v < 4 → spelled 2 v ≡ a ∷ b ∷ []
    → number_at 2 (from at (a ∷ b ∷ rest)) ≡ Ok (v, from (at + length (spelled 2 v)) rest)
two_bits v at a b rest lt e = ap (λ (t : List Bool). number_at 2 (from at (t ++ rest))) (sym e)
    ∙ number_again 2 v at rest lt

no_start_at : (extra : Option Header) (at : ℕ) (second : Bool) (rest : List Bool)
    → begun_at extra (from at (false ∷ second ∷ rest)) ≡ Err (stands faults.NoStart at)
unfolding begun_at
no_start_at extra at false rest = rw (two_bits 0 at false false rest (omega arith) zero_is) refl
no_start_at extra at true rest = rw (two_bits 1 at false true rest (omega arith) one_is) refl

picture_at : (h : Header) (at : ℕ) (rest : List Bool) → begun_at (Some h) (from at (true ∷ false ∷ rest))
    ≡ Err (stands faults.ExtraHeader at)
unfolding begun_at
picture_at h at rest = rw (two_bits 2 at true false rest (omega arith) two_is) refl

later_at : (at : ℕ) (rest : List Bool) → begun_at None (from at (true ∷ true ∷ rest))
    ≡ Err (stands faults.NoExtraHeader at)
unfolding begun_at
later_at at rest = rw (two_bits 3 at true true rest (omega arith) three_is) refl

few_at : (extra : Option Header) (at : ℕ) (bits : List Bool) → length bits < 2 → begun_at extra (from at bits)
    ≡ Err (stands faults.Ended at)
unfolding begun_at number_at
few_at extra at bits lt = rw (lt-ltb (length bits) 2 lt) refl

-- after the extra header the data's fault is the payload's
in_data : HeaderLaws → (format : Format) (b : Bits) (extra : Option Header) (at : ℕ) (coded : List Bool)
    (kind : FaultKind) → ReachesData format b extra at coded
    → begun_at extra (from at coded) ≡ Err (stands kind at) → payload_at format b ≡ Err (stands kind at)
in_data laws format b extra at coded kind r fault =
    let o = r.opening in
    let c = from r.start (r.middle ++ coded) in
    let again = extra_again laws format o.plen o.pebit extra r.start r.middle coded r.text in
    let place : r.start + 8 * o.plen ≡ at = omega (arith, again.len, r.place) in
    let left : skip (8 * o.plen) c ≡ from at coded =
    ap (λ (k : ℕ). from k (drop (8 * o.plen) (r.middle ++ coded))) place
    ∙ ap (λ (t : List Bool). from at t) (drop_at r.middle coded (8 * o.plen) again.len) in
    after_leading format b o r.start (r.middle ++ coded) r.leads ∙ ap (after_extra o c) again.read
    ∙ ap (begun_at extra) left ∙ fault

from_row : HeaderLaws → (format : Format) (b : Bits) (kind : FaultKind) (at : ℕ) → IsPayloadFault format b kind at
    → payload_at format b ≡ Err (stands kind at)
from_row laws format b kind at (in_leading k p f) = leading_row format b (stands k p)
    ((first_fault_is leading b (stands k p) leading_productive).1 f)
from_row laws format b kind at (cut_extra o p left l some lt) = cut_row format b o p left l some lt
from_row laws format b kind at (in_extra o start extra left k p l some size there f) =
    header_row format b o start extra left (stands k p) l some size there
    ((first_fault_is (header format) (from start extra) (stands k p) (laws.productive format)).1 f)
from_row laws format b kind at (left_over o start h text more left l some t extra size there) =
    left_over_row laws format b o start h text more left l some t extra size there
from_row laws format b kind at (cut_data extra p coded r lt) = in_data laws format b extra p coded faults.Ended r
    (few_at extra p coded lt)
from_row laws format b kind at (no_start extra p second rest r) = in_data laws format b extra p
    (false ∷ second ∷ rest) faults.NoStart r (no_start_at extra p second rest)
from_row laws format b kind at (picture h p rest r) = in_data laws format b (Some h) p
    (true ∷ false ∷ rest) faults.ExtraHeader r (picture_at h p rest)
from_row laws format b kind at (slice p rest r) = in_data laws format b None p (true ∷ true ∷ rest) faults.NoExtraHeader
    r (later_at p rest)

-- ---- bits are in a row of the table, or spell a payload

abbrev Stands : Format → Bits → Type 0
Stands format b = ((kind : FaultKind) × (at : ℕ) × IsPayloadFault format b kind at)
    ⊎ ((p : Payload) × IsPayload format p b)

whole : (format : Format) (b : Bits) (extra : Option Header) (at : ℕ) (begins : Bool) (rest : List Bool)
    → begins ≡ is_none extra → ReachesData format b extra at (true ∷ not begins ∷ rest) → Stands format b
whole format b extra at begins rest e r = inr (
  record { extra = extra; begins = begins; from = at },
  record {
    opening = r.opening;
    front = r.leads.front;
    middle = r.middle;
    coded = true ∷ not begins ∷ rest;
    parts = r.leads.parts;
    opened = r.leads.text;
    extra = r.text;
    begun = (rest, refl);
    begins = e;
    from = omega (arith, r.place, r.leads.place);
  },
)

at_data : (format : Format) (b : Bits) (extra : Option Header) (at : ℕ) (coded : List Bool)
    → ReachesData format b extra at coded → Stands format b
at_data format b extra at [] r = inl (faults.Ended, at, cut_data extra at [] r (omega arith))
at_data format b extra at (x ∷ []) r = inl (faults.Ended, at, cut_data extra at (x ∷ []) r (omega arith))
at_data format b extra at (false ∷ second ∷ rest) r = inl (faults.NoStart, at, no_start extra at second rest r)
at_data format b None at (true ∷ false ∷ rest) r = whole format b None at true rest refl r
at_data format b (Some h) at (true ∷ false ∷ rest) r = inl (faults.ExtraHeader, at, picture h at rest r)
at_data format b None at (true ∷ true ∷ rest) r = inl (faults.NoExtraHeader, at, slice at rest r)
at_data format b (Some h) at (true ∷ true ∷ rest) r = whole format b (Some h) at false rest refl r

-- an extra header that fills its bits
at_header : (format : Format) (b : Bits) (o : Opening) (start : ℕ) (h : Header) (text left : List Bool)
    → Leads b o start (text ++ left) → 0 < o.plen → length text + o.pebit ≡ 8 * o.plen → o.pebit ≤ length left
    → IsHeaderText format h text → Stands format b
at_header format b o start h text left l some size there t =
    let pad = take o.pebit left in
    let coded = drop o.pebit left in
    let pads : length pad ≡ o.pebit = omega (arith, length-take o.pebit left, there) in
    let middle = text ++ pad in
    let len : length middle ≡ 8 * o.plen = omega (arith, length-append text pad, pads, size) in
    let parts : text ++ left ≡ middle ++ coded = ap (λ (x : List Bool). text ++ x) (sym (take-append-drop o.pebit left))
    ∙ sym (append_assoc text pad coded) in
    at_data format b (Some h) (start + length middle) coded (record {
      opening = o;
      start = start;
      middle = middle;
      leads = subst (λ (x : List Bool). Leads b o start x) parts l;
      text = (text, pad, refl, some, len, pads, t);
      place = refl;
    })

at_extra : HeaderLaws → (format : Format) (b : Bits) (o : Opening) (start : ℕ) (extra left : List Bool)
    → Leads b o start (extra ++ left) → 0 < o.plen → length extra + o.pebit ≡ 8 * o.plen → o.pebit ≤ length left
    → Stands format b
at_extra laws format b o start extra left l some size there = by (reading (header format) (from start extra)) refl
  where
    by : (r : Result (Header × Bits) Fault) → reading (header format) (from start extra) ≡ r → Stands format b
    by (Err d) e = inl (
      d.kind,
      d.at,
      in_extra o start extra left d.kind d.at l some size there
          ((first_fault_is (header format) (from start extra) d (laws.productive format)).0 e),
    )
    by (Ok x) e =
        let s = sound (header format) (from start extra) x.1 x.0 e in
        left_or (length x.1.bits == 0) refl s.0 s.2 s.1.parts
      where
        left_or : (t : Bool) → (length x.1.bits == 0) ≡ t → (text : List Bool) → IsHeaderText format x.0 text
            → extra ≡ text ++ x.1.bits → Stands format b
        left_or true e text h parts =
            let whole : extra ≡ text = parts
            ∙ ap (λ (t : List Bool). text ++ t) (empty x.1.bits (eqb-true (length x.1.bits) 0 e))
            ∙ append-nil text in
            at_header format b o start x.0 text left (subst (λ (t : List Bool). Leads b o start (t ++ left)) whole l)
            some (omega (arith, size, ap length whole)) there h
        left_or false e text h parts =
            let more = x.1.bits in
            let regroup : extra ++ left ≡ text ++ (more ++ left) = ap (λ (t : List Bool). t ++ left) parts
            ∙ append_assoc text more left in
            inl (
              faults.ExtraHeader,
              start + length text,
              left_over o start x.0 text more left (subst (λ (t : List Bool). Leads b o start t) regroup l) some h
                  (omega (arith, eqb-false (length more) 0 e)) (omega (
                    arith,
                    size,
                    ap length parts,
                    length-append text more,
                  )) there,
            )

at_opening : HeaderLaws → (format : Format) (b : Bits) (o : Opening) (start : ℕ) (left : List Bool)
    → Leads b o start left → Stands format b
at_opening laws format b o start left l = by (o.plen == 0) refl
  where
    by : (t : Bool) → (o.plen == 0) ≡ t → Stands format b
    by true e = at_data format b None start left (record {
      opening = o;
      start = start;
      middle = [];
      leads = l;
      text = (eqb-true o.plen 0 e, refl);
      place = omega arith;
    })
    by false e =
        let some : 0 < o.plen = omega (arith, eqb-false o.plen 0 e) in
        let pebit : o.pebit < 8 = (leading_is o l.front l.text).range.pebit in
        let n = 8 * o.plen - o.pebit in
        elim (cases_lt (length left) (8 * o.plen)) [
          | inl lt ↦ inl (faults.Ended, start, cut_extra o start left l some lt)
          | inr fits ↦
              at_extra laws format b o start (take n left) (drop n left) (subst (λ (t : List Bool). Leads b o start t)
              (sym (take-append-drop n left)) l) some
              (omega (arith, length-take n left, fits, pebit, some)) (omega (
                arith,
                length-drop n left,
                fits,
                pebit,
                some,
              ))
        ]

each_stands : HeaderLaws → (format : Format) (b : Bits) → Stands format b
each_stands laws format b = by (reading leading b) refl
  where
    by : (r : Result (Opening × Bits) Fault) → reading leading b ≡ r → Stands format b
    by (Err d) e = inl (d.kind, d.at, in_leading d.kind d.at ((first_fault_is leading b d leading_productive).0 e))
    by (Ok x) e =
        let s = sound leading b x.1 x.0 e in
        at_opening laws format b x.0 x.1.at x.1.bits (record {
          front = s.0;
          text = s.2;
          parts = s.1.parts;
          place = s.1.at;
        })

to_row : HeaderLaws → (format : Format) (b : Bits) (fault : Fault) → Stands format b → payload_at format b ≡ Err fault
    → IsPayloadFault format b fault.kind fault.at
to_row laws format b fault (inl r) e =
    let same : stands r.0 r.1 ≡ fault = err_is {A = Payload} (stands r.0 r.1) fault
    (sym (from_row laws format b r.0 r.1 r.2) ∙ e) in
    subst (λ (d : Fault). IsPayloadFault format b d.kind d.at) same r.2
to_row laws format b fault (inr r) e = absurd (err_not_ok fault r.0 (sym e ∙ text_read laws format r.0 b r.1))

pub first_faults : HeaderLaws → (format : Format) (b : Bits) (fault : Fault) → (payload_at format b ≡ Err fault)
    ↔ IsPayloadFault format b fault.kind fault.at
first_faults laws format b fault = (
  λ e. to_row laws format b fault (each_stands laws format b) e,
  λ r. from_row laws format b fault.kind fault.at r,
)
