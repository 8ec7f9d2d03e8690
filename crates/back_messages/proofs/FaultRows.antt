-- A message has its first fault where a row of the table has it, and nowhere else.
use Rattle.std.proofs.Common.{◌≡◌, ◌⊎◌, ℕ, ◌+◌, ◌*◌, ◌/◌, ◌%◌, ◌^◌, ◌<◌, ◌≤◌, Bool, true, false, cond, refl, sym, ap, subst, ◌∙◌, arith, inl, inr, List, [], ◌∷◌, ◌++◌, length, take, drop, Option, Some, None, Result, Ok, Err, eq-eqb}
use Rattle.std.specs.Prelude.{◌==◌, ◌&&◌, ◌↔◌, not}
use Rattle.std.proofs.Math.Nat.{mod-eq_of_lt}
use Rattle.std.proofs.lemmas.Bool.{cases_lt, lt-ltb, le-ltb, le-leb, lt-leb, eqb-true, eqb-false, ne_eqb}
use Rattle.std.proofs.lemmas.List.{append-nil, length-append, length-take, length-drop}
use Rattle.h263_bits.specs.declared.fault.Fault.{Fault}
use Rattle.h263_bits.specs.declared.fault.FaultKind.{FaultKind}
use Rattle.h263_bits.specs.declared.fault.FaultKind.TheVariants as faults
use Rattle.h263_bits.specs.Bits.{bits_of, number, spelled, fields}
use Rattle.h263_bits.specs.Reading.{Bits}
use Rattle.h263_bits.specs.Syntax.{any, either, part, done, same_bit, reading}
use Rattle.h263_bits.specs.Elements.{ElementFaults}
use Rattle.h263_bits.proofs.SyntaxLaws.{length-spelled, length-bits_of, length-fields, number-spelled, spelled-append, first_fault_is}
use Rattle.h263_types.specs.declared.clock.Clock.{Clock}
use Rattle.h263_types.specs.Clocks.{period_of}
use Rattle.back_messages.specs.declared.message.Message.{Message}
use Rattle.back_messages.specs.declared.message.MessageFault.{MessageFault}
use Rattle.back_messages.specs.declared.message.MessageFault.TheVariants.{Length, Kind, High, Marker, Pair}
use Rattle.back_messages.specs.Text.{first_field_fault, message_fault, is_long, is_fault, message_value, allowed_message, allowed_markers, has_markers, marks_in, message_in, flags, message}
use Rattle.back_messages.specs.Rows.{First, HoldsFields, HoldsFlags, urf_in, IsRight, HasFirst, wrong_kind, other_urf, high_tr, zero_marker, high_rtr, other_pair, IsMessageFault, other_length, in_short, in_long, in_flags, IsMessageFieldFault, cut, refused, cut_flags, refused_flags}
use Rattle.back_messages.proofs.Codes.{first_number, first_number_text}
use Rattle.back_messages.proofs.Texts.{number_small, number_text, message_productive}

-- ---- the fields of a number

number_holds : (f : First) (bits : List Bool) → HoldsFields bits f
    → number bits ≡ first_number f.type f.urf f.tr f.marker f.rtr
number_holds f bits h =
    let n = first_number f.type f.urf f.tr f.marker f.rtr in
    let text : bits ≡ spelled 24 n = h.text
    ∙ sym (first_number_text f.type f.urf f.tr f.marker f.rtr h.type_small h.urf_small h.tr_small h.marker_small
    h.rtr_small) in
    let small : n < 2 ^ 24 = below f.type f.urf f.tr f.marker f.rtr h.type_small h.urf_small h.tr_small h.marker_small
    h.rtr_small in
    ap number text ∙ number-spelled 24 n ∙ mod-eq_of_lt small
  where
    below : (type urf tr marker rtr : ℕ) → type < 4 → urf < 2 → tr < 1024 → marker < 2 → rtr < 1024
        → first_number type urf tr marker rtr < 2 ^ 24
    below type urf tr marker rtr t u r m s = omega arith

-- the fault of a number is that of its fields
fault_holds : (clock : Clock) (is_long : Bool) (f : First) (bits : List Bool) → HoldsFields bits f
    → message_fault clock is_long (number bits) ≡ first_field_fault clock is_long f.type f.urf f.tr f.marker f.rtr
unfolding message_fault
fault_holds clock is_long f bits h =
    let e = number_holds f bits h in
    let type : number bits / 2 ^ 22 ≡ f.type = omega (
      arith,
      e,
      h.type_small,
      h.urf_small,
      h.tr_small,
      h.marker_small,
      h.rtr_small,
    ) in
    let urf : number bits / 2 ^ 21 % 2 ≡ f.urf = omega (
      arith,
      e,
      h.type_small,
      h.urf_small,
      h.tr_small,
      h.marker_small,
      h.rtr_small,
    ) in
    let tr : number bits / 2 ^ 11 % 2 ^ 10 ≡ f.tr = omega (
      arith,
      e,
      h.type_small,
      h.urf_small,
      h.tr_small,
      h.marker_small,
      h.rtr_small,
    ) in
    let marker : number bits / 2 ^ 10 % 2 ≡ f.marker = omega (
      arith,
      e,
      h.type_small,
      h.urf_small,
      h.tr_small,
      h.marker_small,
      h.rtr_small,
    ) in
    let rtr : number bits % 2 ^ 10 ≡ f.rtr = omega (
      arith,
      e,
      h.type_small,
      h.urf_small,
      h.tr_small,
      h.marker_small,
      h.rtr_small,
    ) in
    rw (type, urf, tr, marker, rtr) refl

urf_holds : (f : First) (bits : List Bool) → HoldsFields bits f → number bits / 2 ^ 21 % 2 ≡ f.urf
urf_holds f bits h = omega (
  arith,
  number_holds f bits h,
  h.type_small,
  h.urf_small,
  h.tr_small,
  h.marker_small,
  h.rtr_small,
)

-- the fields of 24 bits
record AreFirst (bits : List Bool) : Type 0 where
  fields : First
  holds : HoldsFields bits fields

first_of : (bits : List Bool) → length bits ≡ 24 → AreFirst bits
first_of bits len =
    let n = number bits in
    let small = number_small 24 bits len in
    let whole : n ≡ first_number (n / 2 ^ 22) (n / 2 ^ 21 % 2) (n / 2 ^ 11 % 2 ^ 10) (n / 2 ^ 10 % 2) (n % 2 ^ 10) =
    omega arith in
    record {
      fields = record {
        type = n / 2 ^ 22;
        urf = n / 2 ^ 21 % 2;
        tr = n / 2 ^ 11 % 2 ^ 10;
        marker = n / 2 ^ 10 % 2;
        rtr = n % 2 ^ 10;
      };
      holds = record {
        type_small = omega arith;
        urf_small = omega arith;
        tr_small = omega arith;
        marker_small = omega arith;
        rtr_small = omega arith;
        text = number_text 24 bits len ∙ ap (spelled 24) whole
            ∙ first_number_text (n / 2 ^ 22) (n / 2 ^ 21 % 2) (n / 2 ^ 11 % 2 ^ 10) (n / 2 ^ 10 % 2) (n % 2 ^ 10)
            (omega arith) (omega arith) (omega arith) (omega arith) (omega arith);
      };
    }

-- ---- the first 24 bits

alike : (is_long : Bool) (u : ℕ) → u ≡ urf_in is_long → not (same_bit is_long (u == 1)) ≡ false
alike true u e = rw (eq-eqb u 1 e) refl
alike false u e = rw (ne_eqb u 1 (λ same. omega (arith, e, same))) refl

unlike : (is_long : Bool) (u : ℕ) → u < 2 → (u ≡ urf_in is_long → ⊥) → not (same_bit is_long (u == 1)) ≡ true
unlike true u small other = rw (ne_eqb u 1 other) refl
unlike false u small other = rw (eq-eqb u 1 (omega (arith, small, other))) refl

-- what the fields have, once URF is looked at
from_first : (clock : Clock) (is_long : Bool) (f : First) (fault : MessageFault) → f.urf < 2
    → HasFirst clock is_long f fault → first_field_fault clock is_long f.type f.urf f.tr f.marker f.rtr ≡ Some fault
from_first clock is_long f fault small (wrong_kind lt) = rw (lt-ltb f.type 2 lt) refl
from_first clock is_long f fault small (other_urf high other) = rw (
  le-ltb f.type 2 high,
  unlike is_long f.urf small other,
) refl
from_first clock is_long f fault small (high_tr high is past) = rw (
  le-ltb f.type 2 high,
  alike is_long f.urf is,
  le-leb (period_of clock) f.tr past,
) refl
from_first clock is_long f fault small (zero_marker high is low none) = rw (
  le-ltb f.type 2 high,
  alike is_long f.urf is,
  lt-leb (period_of clock) f.tr low,
  eq-eqb f.marker 0 none,
) refl
from_first clock is_long f fault small (high_rtr high is low one past) =
    rw (
      le-ltb f.type 2 high,
      alike is_long f.urf is,
      lt-leb (period_of clock) f.tr low,
      ne_eqb f.marker 0 (λ z. omega (arith, one, z)),
      le-leb (period_of clock) f.rtr past,
    ) refl
from_first clock is_long f fault small (other_pair is low one low2 three other) =
    rw (
      le-ltb f.type 2 (omega (arith, three)),
      alike is_long f.urf is,
      lt-leb (period_of clock) f.tr low,
      ne_eqb f.marker 0 (λ z. omega (arith, one, z)),
      lt-leb (period_of clock) f.rtr low2,
      eq-eqb f.type 3 three,
      ne_eqb f.tr f.rtr other,
    ) refl

right_first : (clock : Clock) (is_long : Bool) (f : First) → IsRight clock is_long f
    → first_field_fault clock is_long f.type f.urf f.tr f.marker f.rtr ≡ None
right_first clock is_long f r =
    rw (
      le-ltb f.type 2 r.type_high,
      alike is_long f.urf r.urf_is,
      lt-leb (period_of clock) f.tr r.tr_low,
      ne_eqb f.marker 0 (λ z. omega (arith, r.marker_is, z)),
      lt-leb (period_of clock) f.rtr r.rtr_low,
      by (f.type == 3) refl,
    ) refl
  where
    by : (t : Bool) → (f.type == 3) ≡ t → (t && not (f.tr == f.rtr)) ≡ false
    by true e = rw (eq-eqb f.tr f.rtr (r.pair_is (eqb-true f.type 3 e))) refl
    by false e = refl

-- fields have a fault, or none
abbrev EachFirst : Clock → Bool → First → Type 0
EachFirst clock is_long f = ((fault : MessageFault) × HasFirst clock is_long f fault) ⊎ IsRight clock is_long f

each_first : (clock : Clock) (is_long : Bool) (f : First) → f.marker < 2 → EachFirst clock is_long f
each_first clock is_long f small = elim (cases_lt f.type 2) [
  | inl lt ↦ inl (Kind, wrong_kind lt)
  | inr high ↦ at_urf high (f.urf == urf_in is_long) refl
]
  where
    at_pair : 2 ≤ f.type → f.urf ≡ urf_in is_long → f.tr < period_of clock → f.marker ≡ 1 → f.rtr < period_of clock
        → (a b : Bool) → (f.type == 3) ≡ a → (f.tr == f.rtr) ≡ b → EachFirst clock is_long f
    at_pair high is low one low2 true false e g = inl (
      Pair,
      other_pair is low one low2 (eqb-true f.type 3 e)
          (eqb-false f.tr f.rtr g),
    )
    at_pair high is low one low2 true true e g = inr (record {
      type_high = high;
      urf_is = is;
      tr_low = low;
      marker_is = one;
      rtr_low = low2;
      pair_is = λ three. eqb-true f.tr f.rtr g;
    })
    at_pair high is low one low2 false b e g =
        inr (record {
          type_high = high;
          urf_is = is;
          tr_low = low;
          marker_is = one;
          rtr_low = low2;
          pair_is = λ three. absurd (eqb-false f.type 3 e three);
        })

    at_marker : 2 ≤ f.type → f.urf ≡ urf_in is_long → f.tr < period_of clock → (t : Bool) → (f.marker == 0) ≡ t
        → EachFirst clock is_long f
    at_marker high is low true e = inl (Marker, zero_marker high is low (eqb-true f.marker 0 e))
    at_marker high is low false e =
        let some = eqb-false f.marker 0 e in
        let one : f.marker ≡ 1 = omega (arith, some, small) in
        elim (cases_lt f.rtr (period_of clock)) [
          | inl low2 ↦ at_pair high is low one low2 (f.type == 3) (f.tr == f.rtr)
              refl refl
          | inr past ↦ inl (High, high_rtr high is low one past)
        ]

    at_urf : 2 ≤ f.type → (t : Bool) → (f.urf == urf_in is_long) ≡ t → EachFirst clock is_long f
    at_urf high false e = inl (Length, other_urf high (eqb-false f.urf (urf_in is_long) e))
    at_urf high true e =
        let is = eqb-true f.urf (urf_in is_long) e in
        elim (cases_lt f.tr (period_of clock)) [
          | inl low ↦ at_marker high is low (f.marker == 0) refl
          | inr past ↦ inl (High, high_tr high is past)
        ]

-- ---- two bytes of flags

abbrev flags_from : ℕ → ℕ → ℕ → ℕ → ℕ
flags_from first marks second more = first * 2 ^ 15 + marks * 2 ^ 8 + second * 2 ^ 7 + more

flags_from_text : (first marks second more : ℕ) → first < 2 → marks < 128 → second < 2 → more < 128
    → spelled 16 (flags_from first marks second more) ≡ fields ((1, first) ∷ (7, marks) ∷ (1, second) ∷ (7, more) ∷ [])
flags_from_text first marks second more f m s o =
    let low : ℕ = second * 2 ^ 7 + more in
    let whole : flags_from first marks second more ≡ first * 2 ^ 15 + (marks * 2 ^ 8 + low) = omega arith in
    ap (spelled 16) whole ∙ spelled-append 1 15 first (marks * 2 ^ 8 + low) (omega arith)
    ∙ ap (λ (t : List Bool). spelled 1 first ++ t) (
    spelled-append 7 8 marks low (omega arith)
    ∙ ap (λ (t : List Bool). spelled 7 marks ++ t) (
    spelled-append 1 7 second more (omega arith)
    ∙ ap (λ (t : List Bool). spelled 1 second ++ t) (sym (append-nil (spelled 7 more)))
    )
    )

-- the markers of bytes that hold flags
record Marks (bits : List Bool) (first second : ℕ) : Type 0 where
  first_is : number bits / 2 ^ 15 % 2 ≡ first
  second_is : number bits / 2 ^ 7 % 2 ≡ second

flags_hold : (bits : List Bool) (first second : ℕ) → HoldsFlags bits first second → Marks bits first second
flags_hold bits first second h =
    let n = flags_from first h.marks second h.more in
    let text : bits ≡ spelled 16 n = h.text
    ∙ sym (flags_from_text first h.marks second h.more h.first_small h.marks_small h.second_small h.more_small) in
    let small : n < 2 ^ 16 = below first h.marks second h.more h.first_small h.marks_small h.second_small h.more_small
    in
    let e : number bits ≡ n = ap number text ∙ number-spelled 16 n ∙ mod-eq_of_lt small in
    record {
      first_is = omega (arith, e, h.first_small, h.marks_small, h.second_small, h.more_small);
      second_is = omega (arith, e, h.first_small, h.marks_small, h.second_small, h.more_small);
    }
  where
    below : (first marks second more : ℕ) → first < 2 → marks < 128 → second < 2 → more < 128
        → flags_from first marks second more < 2 ^ 16
    below first marks second more f m s o = omega arith

record AreTwo (bits : List Bool) : Type 0 where
  first : ℕ
  second : ℕ
  holds : HoldsFlags bits first second

flags_of_bits : (bits : List Bool) → length bits ≡ 16 → AreTwo bits
flags_of_bits bits len =
    let n = number bits in
    let small = number_small 16 bits len in
    let whole : n ≡ flags_from (n / 2 ^ 15) (n / 2 ^ 8 % 2 ^ 7) (n / 2 ^ 7 % 2) (n % 2 ^ 7) = omega arith in
    record {
      first = n / 2 ^ 15;
      second = n / 2 ^ 7 % 2;
      holds = record {
        marks = n / 2 ^ 8 % 2 ^ 7;
        more = n % 2 ^ 7;
        first_small = omega arith;
        marks_small = omega arith;
        second_small = omega arith;
        more_small = omega arith;
        text = number_text 16 bits len ∙ ap (spelled 16) whole
            ∙ flags_from_text (n / 2 ^ 15) (n / 2 ^ 8 % 2 ^ 7) (n / 2 ^ 7 % 2) (n % 2 ^ 7) (omega arith) (omega arith)
            (omega arith) (omega arith);
      };
    }

unmarked : (bits : List Bool) (first second : ℕ) → HoldsFlags bits first second → (first ≡ 0) ⊎ (second ≡ 0)
    → has_markers (number bits) ≡ false
unmarked bits first second h (inl none) =
    let m = flags_hold bits first second h in
    rw (ne_eqb (number bits / 2 ^ 15 % 2) 1 (λ one. omega (arith, m.first_is, none, one))) refl
unmarked bits first second h (inr none) =
    let m = flags_hold bits first second h in
    rw (ne_eqb (number bits / 2 ^ 7 % 2) 1 (λ one. omega (arith, m.second_is, none, one)))
    (both_false (number bits / 2 ^ 15 % 2 == 1))
  where
    both_false : (t : Bool) → (t && false) ≡ false
    both_false true = refl
    both_false false = refl

-- both bytes have their marker, or one has none
each_flags : (bits : List Bool) (first second : ℕ) → HoldsFlags bits first second → ((first ≡ 0) ⊎ (second ≡ 0))
    ⊎ (has_markers (number bits) ≡ true)
each_flags bits first second h = by (first == 0) (second == 0) refl refl
  where
    by : (a b : Bool) → (first == 0) ≡ a → (second == 0) ≡ b → ((first ≡ 0) ⊎ (second ≡ 0))
        ⊎ (has_markers (number bits) ≡ true)
    by true b e g = inl (inl (eqb-true first 0 e))
    by false true e g = inl (inr (eqb-true second 0 g))
    by false false e g =
        let m = flags_hold bits first second h in
        let one : number bits / 2 ^ 15 % 2 ≡ 1 = omega (arith, m.first_is, h.first_small, eqb-false first 0 e) in
        let two : number bits / 2 ^ 7 % 2 ≡ 1 = omega (arith, m.second_is, h.second_small, eqb-false second 0 g) in
        inr (rw (eq-eqb (number bits / 2 ^ 15 % 2) 1 one, eq-eqb (number bits / 2 ^ 7 % 2) 1 two) refl)

-- ---- a message in bytes

from_bytes : (clock : Clock) (bytes : List ℕ) (fault : MessageFault) → IsMessageFault clock bytes fault
    → message_in clock bytes ≡ Err fault
unfolding message_in
from_bytes clock bytes fault (other_length three five) = rw (
  ne_eqb (length bytes) 3 three,
  ne_eqb (length bytes) 5 five,
) refl
from_bytes clock bytes fault (in_short f d len h first) =
    let found : message_fault clock false (number (bits_of bytes))
    ≡ Some d = fault_holds clock false f (bits_of bytes) h ∙ from_first clock false f d h.urf_small first in
    rw (len, found) refl
from_bytes clock bytes fault (in_long f d len h first) =
    let found : message_fault clock true (number (bits_of (take 3 bytes)))
    ≡ Some d = fault_holds clock true f (bits_of (take 3 bytes)) h ∙ from_first clock true f d h.urf_small first in
    rw (len, found) refl
from_bytes clock bytes fault (in_flags f first second len h right two none) =
    let found : message_fault clock true (number (bits_of (take 3 bytes)))
    ≡ None = fault_holds clock true f (bits_of (take 3 bytes)) h ∙ right_first clock true f right in
    rw (len, found, unmarked (bits_of (drop 3 bytes)) first second two none) refl

-- bytes are in a row of the table, or are a message
abbrev Stands : Clock → List ℕ → Type 0
Stands clock bytes = ((fault : MessageFault) × IsMessageFault clock bytes fault)
    ⊎ ((m : Message) × (message_in clock bytes ≡ Ok m))

at_three : (clock : Clock) (bytes : List ℕ) → length bytes ≡ 3 → Stands clock bytes
unfolding message_in
at_three clock bytes len =
    let f = first_of (bits_of bytes) (omega (arith, length-bits_of bytes, len)) in
    elim (each_first clock false f.fields f.holds.marker_small) [
      | inl r ↦ inl (r.0, in_short f.fields r.0 len f.holds r.1)
      | inr right ↦
          let free : message_fault clock false (number (bits_of bytes))
          ≡ None = fault_holds clock false f.fields (bits_of bytes) f.holds
          ∙ right_first clock false f.fields right in
          inr (message_value (number (bits_of bytes)) None, rw (len, free) refl)
    ]

at_five : (clock : Clock) (bytes : List ℕ) → length bytes ≡ 5 → Stands clock bytes
unfolding message_in
at_five clock bytes len =
    let front = bits_of (take 3 bytes) in
    let behind = bits_of (drop 3 bytes) in
    let f = first_of front (omega (arith, length-bits_of (take 3 bytes), length-take 3 bytes, len)) in
    let g = flags_of_bits behind (omega (arith, length-bits_of (drop 3 bytes), length-drop 3 bytes, len)) in
    elim (each_first clock true f.fields f.holds.marker_small) [
      | inl r ↦ inl (r.0, in_long f.fields r.0 len f.holds r.1)
      | inr right ↦
          elim (each_flags behind g.first g.second g.holds) [
            | inl none ↦ inl (Marker, in_flags f.fields g.first g.second len f.holds right g.holds none)
            | inr marked ↦
                let free : message_fault clock true (number front)
                ≡ None = fault_holds clock true f.fields front f.holds ∙ right_first clock true f.fields right in
                inr (message_value (number front) (Some (marks_in (number behind))), rw (len, free, marked) refl)
          ]
    ]

each_stands : (clock : Clock) (bytes : List ℕ) → Stands clock bytes
each_stands clock bytes = by (length bytes == 3) (length bytes == 5) refl refl
  where
    by : (a b : Bool) → (length bytes == 3) ≡ a → (length bytes == 5) ≡ b → Stands clock bytes
    by true b e g = at_three clock bytes (eqb-true (length bytes) 3 e)
    by false true e g = at_five clock bytes (eqb-true (length bytes) 5 g)
    by false false e g = inl (Length, other_length (eqb-false (length bytes) 3 e) (eqb-false (length bytes) 5 g))

fault_is : (c d : MessageFault) (r : Result Message MessageFault) → r ≡ Err c → r ≡ Err d → c ≡ d
fault_is c d r e g = err_same c d (sym e ∙ g)
  where
    ended : MessageFault → Result Message MessageFault
    ended x = Err x

    err_same : (x y : MessageFault) → ended x ≡ ended y → x ≡ y
    err_same x y h = cc

no_both : (m : Message) (d : MessageFault) (r : Result Message MessageFault) → r ≡ Ok m → r ≡ Err d → ⊥
no_both m d r e g = cc

to_bytes : (clock : Clock) (bytes : List ℕ) (fault : MessageFault) → Stands clock bytes → message_in clock bytes
    ≡ Err fault → IsMessageFault clock bytes fault
to_bytes clock bytes fault (inl r) e =
    let same = fault_is r.0 fault (message_in clock bytes) (from_bytes clock bytes r.0 r.1) e in
    subst (λ (d : MessageFault). IsMessageFault clock bytes d) same r.1
to_bytes clock bytes fault (inr r) e = absurd (no_both r.0 fault (message_in clock bytes) r.1 e)

pub bytes_faults : (clock : Clock) (bytes : List ℕ) (fault : MessageFault) → (message_in clock bytes ≡ Err fault)
    ↔ IsMessageFault clock bytes fault
bytes_faults clock bytes fault = (
  λ e. to_bytes clock bytes fault (each_stands clock bytes) e,
  λ r. from_bytes clock bytes fault r,
)

-- ---- a message in a picture header

holds_length : (f : First) (bits : List Bool) → HoldsFields bits f → length bits ≡ 24
holds_length f bits h = ap length h.text
    ∙ length-fields ((2, f.type) ∷ (1, f.urf) ∷ (10, f.tr) ∷ (1, f.marker) ∷ (10, f.rtr) ∷ [])

flags_length : (bits : List Bool) (first second : ℕ) → HoldsFlags bits first second → length bits ≡ 16
flags_length bits first second h = ap length h.text
    ∙ length-fields ((1, first) ∷ (7, h.marks) ∷ (1, second) ∷ (7, h.more) ∷ [])

-- a row of the table
abbrev InField : Clock → List Bool → FaultKind → List Bool → Type 0
InField clock bits kind front = (place : ℕ) × (length front ≡ place) × IsMessageFieldFault clock bits kind place

messages_is : (o : Option MessageFault) (kind : FaultKind) → is_fault o ≡ Some kind → (kind ≡ faults.Messages)
    × ((o ≡ None) → ⊥)
messages_is None kind e = absurd cc
messages_is (Some d) kind e = (cc, λ none. cc)

free_is : (o : Option MessageFault) (d : MessageFault) → o ≡ Some d → is_fault o ≡ None → ⊥
free_is o d e g = cc

is_urf : (f : First) (bits : List Bool) → HoldsFields bits f → is_long (number bits) ≡ (f.urf == 1)
is_urf f bits h = ap (λ (u : ℕ). u == 1) (urf_holds f bits h)

-- the fields after URF said the length
allowed_holds : (clock : Clock) (f : First) (bits : List Bool) → HoldsFields bits f
    → allowed_message clock (number bits)
    ≡ is_fault (first_field_fault clock (f.urf == 1) f.type f.urf f.tr f.marker f.rtr)
allowed_holds clock f bits h =
    ap (λ (t : Bool). is_fault (message_fault clock t (number bits))) (is_urf f bits h)
    ∙ ap is_fault (fault_holds clock (f.urf == 1) f bits h)

-- what a row has is found: the bits before the fault, and what is left with it
abbrev Within : Clock → List Bool → FaultKind → ℕ → Type 0
Within clock bits kind place = (front left : List Bool) × (bits ≡ front ++ left) × (length front ≡ place)
    × ElementFaults (message clock) front left kind

field_text : (f : First) (bits : List Bool) → HoldsFields bits f → bits ≡ spelled 24 (number bits)
field_text f bits h = number_text 24 bits (holds_length f bits h)

field_small : (f : First) (bits : List Bool) → HoldsFields bits f → number bits < 2 ^ 24
field_small f bits h = number_small 24 bits (holds_length f bits h)

-- right fields of a long message, and a fault of its flags
after_first : (clock : Clock) (f : First) (bits left : List Bool) (kind : FaultKind) → HoldsFields bits f
    → IsRight clock true f → ElementFaults flags [] left kind → ElementFaults (message clock) bits left kind
unfolding message ElementFaults
after_first clock f bits left kind h right g =
    let long : (f.urf == 1) ≡ true = eq-eqb f.urf 1 right.urf_is in
    let is : is_long (number bits) ≡ true = is_urf f bits h ∙ long in
    let free : allowed_message clock (number bits) ≡ None =
    allowed_holds clock f bits h
    ∙ ap (λ (t : Bool). is_fault (first_field_fault clock t f.type f.urf f.tr f.marker f.rtr)) long
    ∙ ap is_fault (right_first clock true f right) in
    let more : ElementFaults (either (is_long (number bits))
    (part flags any (λ marks. done (message_value (number bits) (Some marks))))
    (done (message_value (number bits) None))) [] left kind =
    subst (λ (t : Bool). ElementFaults
    (either t (part flags any (λ marks. done (message_value (number bits) (Some marks))))
    (done (message_value (number bits) None))) [] left kind) (sym is) (inl g) in
    inr (
      number bits,
      [],
      field_small f bits h,
      free,
      field_text f bits h ∙ sym (append-nil (spelled 24 (number bits))),
      more,
    )

flags_cut : (left : List Bool) → length left < 16 → ElementFaults flags [] left faults.Ended
unfolding flags ElementFaults
flags_cut left lt = inl (refl, inl (lt, refl))

flags_refused : (middle rest : List Bool) (first second : ℕ) → HoldsFlags middle first second
    → (first ≡ 0) ⊎ (second ≡ 0) → ElementFaults flags [] (middle ++ rest) faults.Messages
unfolding flags ElementFaults
flags_refused middle rest first second h none =
    let len = flags_length middle first second h in
    let refused : allowed_markers (number middle) ≡ Some faults.Messages = rw (unmarked middle first second h none)
    refl in
    inl (
      refl,
      inr (
        number middle,
        rest,
        number_small 16 middle len,
        ap (λ (t : List Bool). t ++ rest) (number_text 16 middle len),
        refused,
      ),
    )

from_field : (clock : Clock) (bits : List Bool) (kind : FaultKind) (place : ℕ)
    → IsMessageFieldFault clock bits kind place
    → Within clock bits kind place
unfolding message ElementFaults
from_field clock bits kind place (cut lt) = ([], bits, refl, refl, inl (refl, inl (lt, refl)))
from_field clock bits kind place (refused f front rest d parts h first) =
    let fault : allowed_message clock (number front) ≡ Some faults.Messages = allowed_holds clock f front h
    ∙ ap is_fault (from_first clock (f.urf == 1) f d h.urf_small first) in
    let text : bits ≡ spelled 24 (number front) ++ rest = parts
    ∙ ap (λ (t : List Bool). t ++ rest) (field_text f front h) in
    ([], bits, refl, refl, inl (refl, inr (number front, rest, field_small f front h, text, fault)))
from_field clock bits kind place (cut_flags f front rest parts h right lt) = (
  front,
  rest,
  parts,
  holds_length f front h,
  after_first clock f front rest faults.Ended h right
      (flags_cut rest lt),
)
from_field clock bits kind place (refused_flags f first second front middle rest parts h right two none) = (
  front,
  middle ++ rest,
  parts,
  holds_length f front h,
  after_first clock f front (middle ++ rest) faults.Messages h right
      (flags_refused middle rest first second two none),
)

-- the fields of a number of 24 bits
first_at : (n : ℕ) → AreFirst (spelled 24 n)
first_at n = first_of (spelled 24 n) (length-spelled 24 n)

number_back : (k n : ℕ) → n < 2 ^ k → number (spelled k n) ≡ n
number_back k n small = number-spelled k n ∙ mod-eq_of_lt small

-- a message's fields that are refused have their fault
refused_row : (clock : Clock) (n : ℕ) (rest : List Bool) (kind : FaultKind) → n < 2 ^ 24 → allowed_message clock n
    ≡ Some kind → InField clock (spelled 24 n ++ rest) kind []
refused_row clock n rest kind small e =
    let f = first_at n in
    let same : allowed_message clock n
    ≡ is_fault (first_field_fault clock (f.fields.urf == 1) f.fields.type f.fields.urf f.fields.tr f.fields.marker
    f.fields.rtr) =
    ap (allowed_message clock) (sym (number_back 24 n small)) ∙ allowed_holds clock f.fields (spelled 24 n) f.holds in
    let m = messages_is (first_field_fault clock (f.fields.urf == 1) f.fields.type f.fields.urf f.fields.tr
    f.fields.marker
    f.fields.rtr) kind (sym same ∙ e) in
    elim (each_first clock (f.fields.urf == 1) f.fields f.holds.marker_small) [
      | inl r ↦ (
        0,
        refl,
        subst (λ (k : FaultKind). IsMessageFieldFault clock (spelled 24 n ++ rest) k 0) (sym m.0)
            (refused f.fields (spelled 24 n) rest r.0 refl f.holds r.1),
      )
      | inr right ↦ absurd (m.1 (right_first clock (f.fields.urf == 1) f.fields right))
    ]

-- those that are not are right
allowed_right : (clock : Clock) (n : ℕ) (f : AreFirst (spelled 24 n)) → n < 2 ^ 24 → allowed_message clock n ≡ None
    → is_long n ≡ true → IsRight clock true f.fields
allowed_right clock n f small e is =
    let h = f.holds in
    let long : (f.fields.urf == 1) ≡ true = sym (is_urf f.fields (spelled 24 n) h) ∙ ap is_long (number_back 24 n small)
    ∙ is in
    let same : is_fault (first_field_fault clock true f.fields.type f.fields.urf f.fields.tr f.fields.marker
    f.fields.rtr)
    ≡ None =
    ap (λ (t : Bool). is_fault (first_field_fault clock t f.fields.type f.fields.urf f.fields.tr f.fields.marker
    f.fields.rtr))
    (sym long)
    ∙ sym (allowed_holds clock f.fields (spelled 24 n) h) ∙ ap (allowed_message clock) (number_back 24 n small) ∙ e in
    elim (each_first clock true f.fields h.marker_small) [
      | inl r ↦
          absurd (free_is _ r.0 (from_first clock true f.fields r.0 h.urf_small r.1) same)
      | inr right ↦ right
    ]

-- flags that are refused have no marker in one of their bytes
markers_is : (n : ℕ) (kind : FaultKind) → allowed_markers n ≡ Some kind → (kind ≡ faults.Messages)
    × (has_markers n ≡ false)
markers_is n kind e = by (has_markers n) refl e
  where
    by : (t : Bool) → has_markers n ≡ t → cond t None (Some faults.Messages) ≡ Some kind → (kind ≡ faults.Messages)
        × (has_markers n ≡ false)
    by true is g = absurd cc
    by false is g = (cc, is)

flags_row : (clock : Clock) (f : First) (front left : List Bool) (kind : FaultKind) → HoldsFields front f
    → IsRight clock true f → ElementFaults flags [] left kind → InField clock (front ++ left) kind front
unfolding flags ElementFaults
flags_row clock f front left kind h right (inl (none, inl lt)) = (
  24,
  holds_length f front h,
  subst (λ (k : FaultKind). IsMessageFieldFault clock (front ++ left) k 24) (sym lt.1)
      (cut_flags f front left refl h right lt.0),
)
flags_row clock f front left kind h right (inl (none, inr (n, rest, small, parts, e))) =
    let m = markers_is n kind e in
    let g = flags_of_bits (spelled 16 n) (length-spelled 16 n) in
    let back : has_markers (number (spelled 16 n)) ≡ false = ap has_markers (number_back 16 n small) ∙ m.1 in
    elim (each_flags (spelled 16 n) g.first g.second g.holds) [
      | inl none2 ↦ (
        24,
        holds_length f front h,
        subst (λ (k : FaultKind). IsMessageFieldFault clock (front ++ left) k 24) (sym m.0)
            (refused_flags f g.first g.second front (spelled 16 n) rest (ap (λ (t : List Bool). front ++ t) parts) h
            right g.holds none2),
      )
      | inr marked ↦ absurd (no_both_bits (has_markers (number (spelled 16 n))) marked back)
    ]
  where
    no_both_bits : (t : Bool) → t ≡ true → t ≡ false → ⊥
    no_both_bits t a b = cc
flags_row clock f front left kind h right (inr g) = absurd g.5

-- flags are one field
nothing_before : (rest left : List Bool) (kind : FaultKind) → ElementFaults flags rest left kind → rest ≡ []
unfolding flags ElementFaults
nothing_before rest left kind (inl g) = g.0
nothing_before rest left kind (inr g) = absurd g.5

to_field : (clock : Clock) (front left : List Bool) (kind : FaultKind) → ElementFaults (message clock) front left kind
    → InField clock (front ++ left) kind front
unfolding message ElementFaults
to_field clock front left kind (inl (none, inl lt)) =
    let short : length (front ++ left) < 24 = omega (arith, length-append front left, ap length none, lt.0) in
    (0, ap length none, subst (λ (k : FaultKind). IsMessageFieldFault clock (front ++ left) k 0) (sym lt.1) (cut short))
to_field clock front left kind (inl (none, inr (n, rest, small, parts, e))) =
    let text : front ++ left ≡ spelled 24 n ++ rest = ap (λ (t : List Bool). t ++ left) none ∙ parts in
    let r = refused_row clock n rest kind small e in
    (r.0, ap length none ∙ r.1, subst (λ (t : List Bool). IsMessageFieldFault clock t kind r.0) (sym text) r.2)
to_field clock front left kind (inr (n, rest, small, free, parts, g)) = by (is_long n) refl g
  where
    by : (t : Bool) → is_long n ≡ t
        → ElementFaults (either t (part flags any (λ marks. done (message_value n (Some marks))))
        (done (message_value n None))) rest left kind → InField clock (front ++ left) kind front
    by false is k = absurd k
    by true is (inr (inl k)) = absurd (none_some k.1.5)
      where
        none_some : None ≡ Some kind → ⊥
        none_some e = cc
    by true is (inr (inr k)) = absurd k.6
    by true is (inl k) =
        let f = first_at n in
        let right = allowed_right clock n f small free is in
        let none = nothing_before rest left kind k in
        let text : front ≡ spelled 24 n = parts ∙ ap (λ (t : List Bool). spelled 24 n ++ t) none
        ∙ append-nil (spelled 24 n) in
        let inner : ElementFaults flags [] left kind = subst (λ (t : List Bool). ElementFaults flags t left kind) none k
        in
        subst (λ (t : List Bool). InField clock (t ++ left) kind t) (sym text)
        (flags_row clock f.fields (spelled 24 n) left kind f.holds right inner)

pub field_faults : (clock : Clock) (b : Bits) (fault : Fault) → (reading (message clock) b ≡ Err fault)
    ↔ ((place : ℕ) × (fault.at ≡ b.at + place) × IsMessageFieldFault clock b.bits fault.kind place)
field_faults clock b fault = (
  λ e.
      let f = (first_fault_is (message clock) b fault (message_productive clock)).0 e in
      let r = to_field clock f.0 f.1 fault.kind f.4 in (
        r.0,
        f.3 ∙ ap (λ (n : ℕ). b.at + n) r.1,
        subst (λ (t : List Bool). IsMessageFieldFault clock t fault.kind r.0)
            (sym f.2) r.2,
      ),
  λ r.
      let w = from_field clock b.bits fault.kind r.0 r.2 in
      (first_fault_is (message clock) b fault (message_productive clock)).1 (
        w.0,
        w.1,
        w.2,
        r.1
            ∙ ap (λ (n : ℕ). b.at + n) (sym w.3),
        w.4,
      ),
)
