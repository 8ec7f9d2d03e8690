-- The first 24 bits of a message, as a number and field by field.
use Rattle.std.proofs.Common.{◌≡◌, ℕ, ◌+◌, ◌*◌, ◌/◌, ◌%◌, ◌^◌, ◌<◌, ◌≤◌, Bool, true, false, cond, List, [], ◌∷◌, ◌++◌, Option, Some, None, refl, sym, ap, ◌∙◌, arith, eq-eqb}
use Rattle.std.specs.Prelude.{nat_le, not, ◌==◌, ◌&&◌}
use Rattle.std.proofs.lemmas.Bool.{ltb-false, leb-false, lt-leb, eqb-true, eqb-false}
use Rattle.std.proofs.lemmas.List.{append-nil}
use Rattle.h263_bits.specs.Bits.{spelled, fields}
use Rattle.h263_bits.specs.Syntax.{same_bit}
use Rattle.h263_bits.proofs.SyntaxLaws.{spelled-append}
use Rattle.h263_types.specs.declared.clock.Clock.{Clock}
use Rattle.h263_types.specs.declared.clock.Clock.TheVariants.{Standard, Custom}
use Rattle.h263_types.specs.Clocks.{period_of}
use Rattle.back_messages.specs.declared.message.Message.{Message}
use Rattle.back_messages.specs.declared.message.Message.TheVariants.{Ack, Nack}
use Rattle.back_messages.specs.declared.message.MessageFault.{MessageFault}
use Rattle.back_messages.specs.Text.{AreMarks, IsMessage, urf_of, first_text, message_marks, first_field_fault, message_of_fields, is_long, message_fault, message_value}

-- ---- what is written

abbrev pub code_from : ℕ → ℕ → ℕ → ℕ → ℕ
code_from type urf tr rtr = type * 2 ^ 22 + urf * 2 ^ 21 + tr * 2 ^ 11 + 2 ^ 10 + rtr

-- the number of a message's first fields
abbrev pub first_number : ℕ → ℕ → ℕ → ℕ → ℕ → ℕ
first_number type urf tr marker rtr = type * 2 ^ 22 + urf * 2 ^ 21 + tr * 2 ^ 11 + marker * 2 ^ 10 + rtr

-- and its bits
pub first_number_text : (type urf tr marker rtr : ℕ) → type < 4 → urf < 2 → tr < 2 ^ 10 → marker < 2 → rtr < 2 ^ 10
    → spelled 24 (first_number type urf tr marker rtr)
    ≡ fields ((2, type) ∷ (1, urf) ∷ (10, tr) ∷ (1, marker) ∷ (10, rtr) ∷ [])
first_number_text type urf tr marker rtr k u t m r =
    let low : ℕ = tr * 2 ^ 11 + (marker * 2 ^ 10 + rtr) in
    let whole : first_number type urf tr marker rtr ≡ type * 2 ^ 22 + (urf * 2 ^ 21 + low) = omega arith in
    ap (spelled 24) whole ∙ spelled-append 2 22 type (urf * 2 ^ 21 + low) (omega arith)
    ∙ ap (λ (x : List Bool). spelled 2 type ++ x) (
    spelled-append 1 21 urf low (omega arith)
    ∙ ap (λ (x : List Bool). spelled 1 urf ++ x) (
    spelled-append 10 11 tr (marker * 2 ^ 10 + rtr) (omega arith)
    ∙ ap (λ (x : List Bool). spelled 10 tr ++ x) (
    spelled-append 1 10 marker rtr (omega arith)
    ∙ ap (λ (x : List Bool). spelled 1 marker ++ x) (sym (append-nil (spelled 10 rtr)))
    )
    )
    )

-- the fields of a type and two temporal references
pub code_text : (type urf tr rtr : ℕ) → type < 4 → urf < 2 → tr < 2 ^ 10 → rtr < 2 ^ 10
    → spelled 24 (code_from type urf tr rtr) ≡ fields ((2, type) ∷ (1, urf) ∷ (10, tr) ∷ (1, 1) ∷ (10, rtr) ∷ [])
code_text type urf tr rtr k u t r =
    let same : code_from type urf tr rtr ≡ first_number type urf tr 1 rtr = omega arith in
    ap (spelled 24) same ∙ first_number_text type urf tr 1 rtr k u t (omega arith) r

pub code_below : (type urf tr rtr : ℕ) → type < 4 → urf < 2 → tr < 2 ^ 10 → rtr < 2 ^ 10
    → code_from type urf tr rtr < 2 ^ 24
code_below type urf tr rtr k u t r = omega arith

pub urf_low : (marks : Option ℕ) → urf_of marks < 2
urf_low None = omega arith
urf_low (Some marks) = omega arith

abbrev pub code_of : Message → ℕ
code_of (Ack tr marks) = code_from 3 (urf_of marks) tr tr
code_of (Nack tr rtr marks) = code_from 2 (urf_of marks) tr rtr

pub period_low : (clock : Clock) (tr : ℕ) → tr < period_of clock → tr < 2 ^ 10
period_low Standard tr h = omega arith
period_low Custom tr h = omega arith

pub first_is : (clock : Clock) (m : Message) → IsMessage clock m → spelled 24 (code_of m) ≡ first_text m
first_is clock (Ack tr marks) h = let t = period_low clock tr h.0 in
    code_text 3 (urf_of marks) tr tr (omega arith) (urf_low marks) t t
first_is clock (Nack tr rtr marks) h = code_text 2 (urf_of marks) tr rtr (omega arith) (urf_low marks)
    (period_low clock tr h.0) (period_low clock rtr h.1)

pub first_below : (clock : Clock) (m : Message) → IsMessage clock m → code_of m < 2 ^ 24
first_below clock (Ack tr marks) h = let t = period_low clock tr h.0 in
    code_below 3 (urf_of marks) tr tr (omega arith) (urf_low marks) t t
first_below clock (Nack tr rtr marks) h = code_below 2 (urf_of marks) tr rtr (omega arith) (urf_low marks)
    (period_low clock tr h.0) (period_low clock rtr h.1)

pub wide : (clock : Clock) (m : Message) → IsMessage clock m → IsMessage Custom m
wide Standard (Ack tr marks) h = (omega (arith, h.0), h.1)
wide Standard (Nack tr rtr marks) h = (omega (arith, h.0), omega (arith, h.1), h.2)
wide Custom m h = h

-- ---- what is read

-- a test that did not find its fault
passed : (t : Bool) (x : MessageFault) (o : Option MessageFault) → cond t (Some x) o ≡ None → (t ≡ false) × (o ≡ None)
passed true x o e = absurd cc
passed false x o e = (refl, e)

both_not : (a b : Bool) → (a && not b) ≡ false → a ≡ true → b ≡ true
both_not true true e h = refl
both_not true false e h = absurd cc
both_not false b e h = absurd cc

not_true : (b : Bool) → not b ≡ false → b ≡ true
not_true true e = refl
not_true false e = absurd cc

same : (a b : Bool) → same_bit a b ≡ true → a ≡ b
same true true e = refl
same true false e = absurd cc
same false true e = absurd cc
same false false e = refl

-- fields without a fault
pub record IsFaultless (clock : Clock) (long : Bool) (type urf tr marker rtr : ℕ) : Type 0 where
  pub type_low : 2 ≤ type
  pub length : long ≡ (urf == 1)
  pub tr_low : tr < period_of clock
  pub marker_no : marker ≡ 0 → ⊥
  pub rtr_low : rtr < period_of clock
  pub pair : type ≡ 3 → tr ≡ rtr

faultless : (clock : Clock) (long : Bool) (type urf tr marker rtr : ℕ)
    → first_field_fault clock long type urf tr marker rtr
    ≡ None → IsFaultless clock long type urf tr marker rtr
faultless clock long type urf tr marker rtr e =
    let a = passed _ _ _ e in
    let n = passed _ _ _ a.1 in
    let b = passed _ _ _ n.1 in
    let c = passed _ _ _ b.1 in
    let d = passed _ _ _ c.1 in
    let f = passed _ _ _ d.1 in
    record {
      type_low = ltb-false type 2 a.0;
      length = same long (urf == 1) (not_true (same_bit long (urf == 1)) n.0);
      tr_low = leb-false (period_of clock) tr b.0;
      marker_no = eqb-false marker 0 c.0;
      rtr_low = leb-false (period_of clock) rtr d.0;
      pair = λ three. eqb-true tr rtr (both_not (type == 3) (tr == rtr) f.0 (eq-eqb type 3 three));
    }

-- the value of faultless fields, and its number
pub record IsValue (clock : Clock) (n : ℕ) (m : Message) : Type 0 where
  pub range : IsMessage clock m
  pub code : code_of m ≡ n

value_is : (clock : Clock) (long : Bool) (type urf tr marker rtr n : ℕ) (marks : Option ℕ)
    → IsFaultless clock long type urf tr marker rtr → urf ≡ urf_of marks → AreMarks marks → type < 4 → marker < 2
    → type * 2 ^ 22 + urf * 2 ^ 21 + tr * 2 ^ 11 + marker * 2 ^ 10 + rtr ≡ n
    → IsValue clock n (message_of_fields type tr rtr marks)
value_is clock long type urf tr marker rtr n marks f u are t k e = at_type (type == 2) refl
  where
    one : marker ≡ 1
    one = omega (arith, f.marker_no)

    at_type : (b : Bool) → (type == 2) ≡ b → IsValue clock n (cond b (Nack tr rtr marks) (Ack tr marks))
    at_type true h = record { range = (f.tr_low, f.rtr_low, are); code = omega (arith, eqb-true type 2 h, u, one) }
    at_type false h =
        let not_two = eqb-false type 2 h in
        let three : type ≡ 3 = omega (arith, f.type_low, not_two) in
        record { range = (f.tr_low, are); code = omega (arith, three, f.pair three, u, one) }

-- URF and the marks say the same
abbrev pub Agrees : Bool → Option ℕ → Type 0
Agrees true None = ⊥
Agrees true (Some marks) = Unit {0}
Agrees false None = Unit {0}
Agrees false (Some marks) = ⊥

urf_agrees : (long : Bool) (urf : ℕ) (marks : Option ℕ) → urf < 2 → long ≡ (urf == 1) → Agrees long marks
    → urf ≡ urf_of marks
urf_agrees true urf None low e a = absurd a
urf_agrees true urf (Some marks) low e a = eqb-true urf 1 (sym e)
urf_agrees false urf None low e a = let no = eqb-false urf 1 (sym e) in omega (arith, no)
urf_agrees false urf (Some marks) low e a = absurd a

pub faultless_value : (clock : Clock) (long : Bool) (n : ℕ) (marks : Option ℕ) → n < 2 ^ 24 → message_fault clock long n
    ≡ None → Agrees long marks → AreMarks marks → IsValue clock n (message_value n marks)
unfolding message_fault message_value
faultless_value clock long n marks h e a are =
    let f = faultless clock long (n / 2 ^ 22) (n / 2 ^ 21 % 2) (n / 2 ^ 11 % 2 ^ 10) (n / 2 ^ 10 % 2) (n % 2 ^ 10) e in
    let u = urf_agrees long (n / 2 ^ 21 % 2) marks (omega arith) f.length a in
    value_is clock long (n / 2 ^ 22) (n / 2 ^ 21 % 2) (n / 2 ^ 11 % 2 ^ 10) (n / 2 ^ 10 % 2) (n % 2 ^ 10) n marks f u
    are (omega arith) (omega arith) (omega arith)

pub fault_length : (clock : Clock) (long : Bool) (n : ℕ) → message_fault clock long n ≡ None → long ≡ is_long n
unfolding message_fault
fault_length clock long n e = (faultless clock long (n / 2 ^ 22) (n / 2 ^ 21 % 2) (n / 2 ^ 11 % 2 ^ 10) (n / 2 ^ 10 % 2)
    (n % 2 ^ 10) e).length

pub value_marks : (n : ℕ) (marks : Option ℕ) → message_marks (message_value n marks) ≡ marks
unfolding message_value
value_marks n marks = at_type (n / 2 ^ 22 == 2)
  where
    at_type : (b : Bool) → message_marks (cond b (Nack (n / 2 ^ 11 % 2 ^ 10) (n % 2 ^ 10) marks)
        (Ack (n / 2 ^ 11 % 2 ^ 10) marks)) ≡ marks
    at_type true = refl
    at_type false = refl

-- ---- fields of a message have no fault

-- whether a message is of five bytes
abbrev pub is_marked_by : Option ℕ → Bool
is_marked_by None = false
is_marked_by (Some marks) = true

urf_is : (marks : Option ℕ) → same_bit (is_marked_by marks) (urf_of marks == 1) ≡ true
urf_is None = refl
urf_is (Some marks) = refl

below_test : (clock : Clock) (tr : ℕ) → tr < period_of clock → nat_le (period_of clock) tr ≡ false
below_test clock tr h = lt-leb (period_of clock) tr h

ack_free : (clock : Clock) (tr : ℕ) (marks : Option ℕ) → tr < period_of clock
    → first_field_fault clock (is_marked_by marks) 3 (urf_of marks) tr 1 tr ≡ None
ack_free clock tr marks h = rw (urf_is marks, below_test clock tr h, eq-eqb tr tr refl) refl

nack_free : (clock : Clock) (tr rtr : ℕ) (marks : Option ℕ) → tr < period_of clock → rtr < period_of clock
    → first_field_fault clock (is_marked_by marks) 2 (urf_of marks) tr 1 rtr ≡ None
nack_free clock tr rtr marks h k = rw (urf_is marks, below_test clock tr h, below_test clock rtr k) refl

-- the parts of a message's number
pub record HasParts (n type urf tr rtr : ℕ) : Type 0 where
  pub type_is : n / 2 ^ 22 ≡ type
  pub urf_is : n / 2 ^ 21 % 2 ≡ urf
  pub tr_is : n / 2 ^ 11 % 2 ^ 10 ≡ tr
  pub marker_is : n / 2 ^ 10 % 2 ≡ 1
  pub rtr_is : n % 2 ^ 10 ≡ rtr

parts : (type urf tr rtr : ℕ) → type < 4 → urf < 2 → tr < 2 ^ 10 → rtr < 2 ^ 10
    → HasParts (code_from type urf tr rtr) type urf tr rtr
parts type urf tr rtr k u t r = record {
  type_is = omega arith;
  urf_is = omega arith;
  tr_is = omega arith;
  marker_is = omega arith;
  rtr_is = omega arith;
}

fault_parts : (clock : Clock) (long : Bool) (n type urf tr rtr : ℕ) → HasParts n type urf tr rtr
    → message_fault clock long n ≡ first_field_fault clock long type urf tr 1 rtr
unfolding message_fault
fault_parts clock long n type urf tr rtr p = rw (p.type_is, p.urf_is, p.tr_is, p.marker_is, p.rtr_is) refl

value_parts : (n type urf tr rtr : ℕ) (marks : Option ℕ) → HasParts n type urf tr rtr
    → message_value n marks ≡ message_of_fields type tr rtr marks
unfolding message_value
value_parts n type urf tr rtr marks p = rw (p.type_is, p.tr_is, p.rtr_is) refl

-- the number of a message has no fault, and stands for that message
pub record IsCode (clock : Clock) (m : Message) : Type 0 where
  pub free : message_fault clock (is_marked_by (message_marks m)) (code_of m) ≡ None
  pub value : message_value (code_of m) (message_marks m) ≡ m

pub code_is : (clock : Clock) (m : Message) → IsMessage clock m → IsCode clock m
code_is clock (Ack tr marks) h =
    let t = period_low clock tr h.0 in
    let p = parts 3 (urf_of marks) tr tr (omega arith) (urf_low marks) t t in
    record {
      free = fault_parts clock _ _ 3 (urf_of marks) tr tr p ∙ ack_free clock tr marks h.0;
      value = value_parts _ 3 (urf_of marks) tr tr marks p;
    }
code_is clock (Nack tr rtr marks) h =
    let p = parts 2 (urf_of marks) tr rtr (omega arith) (urf_low marks) (period_low clock tr h.0)
    (period_low clock rtr h.1) in
    record {
      free = fault_parts clock _ _ 2 (urf_of marks) tr rtr p ∙ nack_free clock tr rtr marks h.0 h.1;
      value = value_parts _ 2 (urf_of marks) tr rtr marks p;
    }

pub range_marks : (clock : Clock) (m : Message) → IsMessage clock m → AreMarks (message_marks m)
range_marks clock (Ack tr marks) h = h.1
range_marks clock (Nack tr rtr marks) h = h.2
