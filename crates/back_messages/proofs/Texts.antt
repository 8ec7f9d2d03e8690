-- What is written of a message is read again, in bytes and in a header, and nothing else is.
use Rattle.std.proofs.Common.{◌≡◌, ℕ, ◌+◌, ◌*◌, ◌/◌, ◌%◌, ◌^◌, ◌<◌, Bool, true, false, cond, List, [], ◌∷◌, ◌++◌, length, take, drop, Option, Some, None, Result, Ok, Err, refl, sym, ap, subst, ◌∙◌, append_assoc, arith}
use Rattle.std.specs.Prelude.{◌==◌, IfOk}
use Rattle.std.proofs.Math.Nat.{mod-eq_of_lt}
use Rattle.std.proofs.lemmas.Bool.{eqb-true}
use Rattle.std.proofs.lemmas.List.{append-nil, length-append, length-take, length-drop, take_at, drop_at, take-append-drop}
use Rattle.h263_bits.specs.declared.fault.FaultKind.TheVariants as faults
use Rattle.h263_bits.specs.Bits.{bits_of, number, spelled}
use Rattle.h263_bits.specs.Syntax.{any, either, part, done, Spells, IsProductive}
use Rattle.h263_bits.proofs.SyntaxLaws.{length-spelled, length-bits_of, length-fields, bits_of-take, bits_of-drop, number-lt, number-spelled, spelled-number, spelled-append, spells_field, spells_part, spells_done, spells_whole, either_productive}
use Rattle.h263_types.specs.declared.clock.Clock.{Clock}
use Rattle.back_messages.specs.declared.message.Message.{Message}
use Rattle.back_messages.specs.declared.message.Message.TheVariants.{Ack, Nack}
use Rattle.back_messages.specs.declared.message.MessageFault.{MessageFault}
use Rattle.back_messages.specs.declared.message.MessageFault.TheVariants.{Length}
use Rattle.back_messages.specs.Text.{AreMarks, IsMessage, message_fields, first_text, flags_text, message_text, message_marks, bits_with, message_bits, is_long, message_fault, message_value, has_markers, marks_in, marked, message_unless, short_message, with_marks, long_message, message_in, is_fault, allowed_message, allowed_markers, flags, message}
use Rattle.back_messages.proofs.Codes.{code_of, first_is, first_below, IsValue, faultless_value, fault_length, value_marks, is_marked_by, code_is, range_marks}
use Rattle.back_messages.proofs.Flags.{turned, turned_low, flags_code, marks_text, marks_low, marked_text, flags_read}

-- ---- bytes

-- a number of 24 bits as three bytes
pub three_bytes : (n : ℕ) → n < 2 ^ 24 → bits_of (n / 65536 ∷ n / 256 % 256 ∷ n % 256 ∷ []) ≡ spelled 24 n
unfolding bits_of
three_bytes n h =
    let whole : n ≡ n / 65536 * 2 ^ 16 + (n / 256 % 256 * 2 ^ 8 + n % 256) = omega arith in
    sym (
    ap (spelled 24) whole ∙ spelled-append 8 16 (n / 65536) (n / 256 % 256 * 2 ^ 8 + n % 256) (omega arith)
    ∙ ap (λ (x : List Bool). spelled 8 (n / 65536) ++ x) (
    spelled-append 8 8 (n / 256 % 256) (n % 256) (omega arith)
    ∙ ap (λ (x : List Bool). spelled 8 (n / 256 % 256) ++ x) (sym (append-nil (spelled 8 (n % 256))))
    )
    )

-- and with one of 16 bits after it, five
pub five_bytes : (n m : ℕ) → n < 2 ^ 24 → m < 2 ^ 16
    → bits_of (n / 65536 ∷ n / 256 % 256 ∷ n % 256 ∷ m / 256 ∷ m % 256 ∷ []) ≡ spelled 24 n ++ spelled 16 m
unfolding bits_of
five_bytes n m h k =
    let whole : n ≡ n / 65536 * 2 ^ 16 + (n / 256 % 256 * 2 ^ 8 + n % 256) = omega arith in
    let two : m ≡ m / 256 * 2 ^ 8 + m % 256 = omega arith in
    let first : spelled 24 n ≡ spelled 8 (n / 65536) ++ (spelled 8 (n / 256 % 256) ++ spelled 8 (n % 256)) =
    ap (spelled 24) whole ∙ spelled-append 8 16 (n / 65536) (n / 256 % 256 * 2 ^ 8 + n % 256) (omega arith)
    ∙ ap (λ (x : List Bool). spelled 8 (n / 65536) ++ x) (spelled-append 8 8 (n / 256 % 256) (n % 256) (omega arith)) in
    let second : spelled 16 m ≡ spelled 8 (m / 256) ++ spelled 8 (m % 256) = ap (spelled 16) two
    ∙ spelled-append 8 8 (m / 256) (m % 256) (omega arith) in
    regroup (spelled 8 (n / 65536)) (spelled 8 (n / 256 % 256)) (spelled 8 (n % 256)) (spelled 8 (m / 256))
    (spelled 8 (m % 256))
    ∙ ap (λ (t : List Bool). t ++ (spelled 8 (m / 256) ++ spelled 8 (m % 256))) (sym first)
    ∙ ap (λ (t : List Bool). spelled 24 n ++ t) (sym second)
  where
    regroup : (a b c d e : List Bool) → a ++ (b ++ (c ++ (d ++ (e ++ [])))) ≡ (a ++ (b ++ c)) ++ (d ++ e)
    regroup a b c d e = simp (append_assoc, append-nil)

pub text_short : (m : Message) → message_marks m ≡ None → message_text m ≡ first_text m
unfolding message_text
text_short m none = ap (λ (o : Option ℕ). first_text m ++ flags_text o) none ∙ append-nil (first_text m)

pub text_long : (m : Message) (marks : ℕ) → message_marks m ≡ Some marks → message_text m ≡ first_text m
    ++ flags_text (Some marks)
unfolding message_text
text_long m marks some = ap (λ (o : Option ℕ). first_text m ++ flags_text o) some

marks_below : (clock : Clock) (m : Message) (marks : ℕ) → IsMessage clock m → message_marks m ≡ Some marks
    → marks < 2 ^ 14
marks_below clock m marks h some = let P : Option ℕ → Type 0 = AreMarks in subst P some (range_marks clock m h)

number_is : (n v : ℕ) (bits : List Bool) → v < 2 ^ n → bits ≡ spelled n v → number bits ≡ v
number_is n v bits lt e = ap number e ∙ number-spelled n v ∙ mod-eq_of_lt lt

short_read : (clock : Clock) (m : Message) (bytes : List ℕ) → IsMessage clock m → message_marks m ≡ None
    → bits_of bytes ≡ first_text m → message_in clock bytes ≡ Ok m
unfolding message_in
short_read clock m bytes h none e =
    let c = code_is clock m h in
    let bits : bits_of bytes ≡ spelled 24 (code_of m) = e ∙ sym (first_is clock m h) in
    let len : length bytes ≡ 3 = omega (arith, length-bits_of bytes, ap length bits, length-spelled 24 (code_of m)) in
    let value : number (bits_of bytes) ≡ code_of m = number_is 24 (code_of m) (bits_of bytes)
    (first_below clock m h) bits in
    let free : message_fault clock false (code_of m)
    ≡ None = ap (λ (o : Option ℕ). message_fault clock (is_marked_by o) (code_of m)) (sym none) ∙ c.free in
    let is : message_value (code_of m) None ≡ m = ap (message_value (code_of m)) (sym none) ∙ c.value in
    rw (len, value, free, is) refl

long_read : (clock : Clock) (m : Message) (marks : ℕ) (bytes : List ℕ) → IsMessage clock m
    → message_marks m ≡ Some marks
    → bits_of bytes ≡ first_text m ++ flags_text (Some marks) → message_in clock bytes ≡ Ok m
unfolding message_in
long_read clock m marks bytes h some e =
    let c = code_is clock m h in
    let k : ℕ = flags_code (turned marks) (turned (marks / 2 ^ 7)) in
    let r = flags_read marks (marks_below clock m marks h some) in
    let a = spelled 24 (code_of m) in
    let b = spelled 16 k in
    let bits : bits_of bytes ≡ a ++ b = e
    ∙ ap (λ (t : List Bool). t ++ flags_text (Some marks)) (sym (first_is clock m h))
    ∙ ap (λ (t : List Bool). a ++ t) (sym (marks_text marks)) in
    let len_a : length a ≡ 24 = length-spelled 24 (code_of m) in
    let len : length bytes ≡ 5 = omega (
      arith,
      length-bits_of bytes,
      ap length bits,
      length-append a b,
      len_a,
      length-spelled 16 k,
    ) in
    let first : bits_of (take 3 bytes) ≡ a = bits_of-take 3 bytes (omega (arith, len)) ∙ ap (take 24) bits
    ∙ take_at a b 24 len_a in
    let second : bits_of (drop 3 bytes) ≡ b = bits_of-drop 3 bytes ∙ ap (drop 24) bits ∙ drop_at a b 24 len_a in
    let code : number (bits_of (take 3 bytes)) ≡ code_of m = number_is 24 (code_of m) _ (first_below clock m h) first in
    let flagged : number (bits_of (drop 3 bytes))
    ≡ k = number_is 16 k _ (omega (arith, turned_low marks, turned_low (marks / 2 ^ 7))) second in
    let free : message_fault clock true (code_of m)
    ≡ None = ap (λ (o : Option ℕ). message_fault clock (is_marked_by o) (code_of m)) (sym some) ∙ c.free in
    let is : message_value (code_of m) (Some marks) ≡ m = ap (message_value (code_of m)) (sym some) ∙ c.value in
    let mark : marked k ≡ Some marks = rw (r.markers, r.marks_are) refl in
    rw (len, code, flagged, free, mark, is) refl

-- the text of a message is read as that message
pub text_read : (clock : Clock) (m : Message) (bytes : List ℕ) → IsMessage clock m → bits_of bytes ≡ message_text m
    → message_in clock bytes ≡ Ok m
text_read clock m bytes h e = at_marks (message_marks m) refl
  where
    at_marks : (o : Option ℕ) → message_marks m ≡ o → message_in clock bytes ≡ Ok m
    at_marks None is = short_read clock m bytes h is (e ∙ text_short m is)
    at_marks (Some marks) is = long_read clock m marks bytes h is (e ∙ text_long m marks is)

-- ---- and nothing else is

unless_ok : (o : Option MessageFault) (r : Result Message MessageFault) (m : Message) → message_unless o r ≡ Ok m
    → (o ≡ None) × (r ≡ Ok m)
unless_ok None r m e = (refl, e)
unless_ok (Some x) r m e = absurd cc

same_message : (v m : Message) → message_unless None (Ok v) ≡ Ok m → v ≡ m
same_message v m e = cc

-- a message, and the bits that spell it
abbrev pub IsRead : Clock → Message → List Bool → Type 0
IsRead clock m bits = IsMessage clock m × (bits ≡ message_text m)

pub number_small : (n : ℕ) (bits : List Bool) → length bits ≡ n → number bits < 2 ^ n
number_small n bits len = subst (λ (k : ℕ). number bits < 2 ^ k) len (number-lt bits)

pub number_text : (n : ℕ) (bits : List Bool) → length bits ≡ n → bits ≡ spelled n (number bits)
number_text n bits len = sym (spelled-number bits) ∙ ap (λ (k : ℕ). spelled k (number bits)) len

pub short_is : (clock : Clock) (n : ℕ) (m : Message) → n < 2 ^ 24 → message_fault clock false n ≡ None
    → message_value n None ≡ m → IsRead clock m (spelled 24 n)
short_is clock n m small free is =
    let v = subst (IsValue clock n) is (faultless_value clock false n None small free tt tt) in
    let none : message_marks m ≡ None = ap message_marks (sym is) ∙ value_marks n None in
    (v.range, ap (spelled 24) (sym v.code) ∙ first_is clock m v.range ∙ sym (text_short m none))

pub long_is : (clock : Clock) (n k : ℕ) (m : Message) → n < 2 ^ 24 → k < 2 ^ 16 → message_fault clock true n ≡ None
    → has_markers k ≡ true → message_value n (Some (marks_in k)) ≡ m → IsRead clock m (spelled 24 n ++ spelled 16 k)
long_is clock n k m small low free marks is =
    let v = subst (IsValue clock n) is (faultless_value clock true n (Some (marks_in k)) small free tt (marks_low k)) in
    let some : message_marks m ≡ Some (marks_in k) = ap message_marks (sym is) ∙ value_marks n (Some (marks_in k)) in (
      v.range,
      ap (λ (t : List Bool). t ++ spelled 16 k) (ap (spelled 24) (sym v.code) ∙ first_is clock m v.range)
          ∙ ap (λ (t : List Bool). first_text m ++ t) (marked_text k low marks) ∙ sym (text_long m (marks_in k) some),
    )

read_short : (clock : Clock) (m : Message) (bytes : List ℕ) → length bytes ≡ 3
    → short_message clock (number (bits_of bytes)) ≡ Ok m → IsRead clock m (bits_of bytes)
read_short clock m bytes len e =
    let n = number (bits_of bytes) in
    let u = unless_ok (message_fault clock false n) (Ok (message_value n None)) m e in
    let long : length (bits_of bytes) ≡ 24 = omega (arith, length-bits_of bytes, len) in
    let s = short_is clock n m (number_small 24 (bits_of bytes) long) u.0 (same_message _ m u.1) in
    (s.0, number_text 24 (bits_of bytes) long ∙ s.1)

marked_is : (n k : ℕ) (m : Message) → with_marks n (marked k) ≡ Ok m → (has_markers k ≡ true)
    × (message_value n (Some (marks_in k)) ≡ m)
marked_is n k m e = at_test (has_markers k) refl e
  where
    at_test : (t : Bool) → has_markers k ≡ t → with_marks n (cond t (Some (marks_in k)) None) ≡ Ok m
        → (has_markers k ≡ true) × (message_value n (Some (marks_in k)) ≡ m)
    at_test true is found = (is, same_message _ m found)
    at_test false is found = absurd cc

read_long : (clock : Clock) (m : Message) (bytes : List ℕ) → length bytes ≡ 5
    → long_message clock (number (bits_of (take 3 bytes))) (number (bits_of (drop 3 bytes))) ≡ Ok m
    → IsRead clock m (bits_of bytes)
read_long clock m bytes len e =
    let a = bits_of (take 3 bytes) in
    let b = bits_of (drop 3 bytes) in
    let n = number a in
    let k = number b in
    let u = unless_ok (message_fault clock true n) (with_marks n (marked k)) m e in
    let f = marked_is n k m u.1 in
    let len_a : length a ≡ 24 = omega (arith, length-bits_of (take 3 bytes), length-take 3 bytes, len) in
    let len_b : length b ≡ 16 = omega (arith, length-bits_of (drop 3 bytes), length-drop 3 bytes, len) in
    let s = long_is clock n k m (number_small 24 a len_a) (number_small 16 b len_b) u.0 f.0 f.1 in
    let whole : bits_of bytes ≡ a ++ b =
    sym (take-append-drop 24 (bits_of bytes))
    ∙ ap (λ (t : List Bool). t ++ drop 24 (bits_of bytes)) (sym (bits_of-take 3 bytes (omega (arith, len))))
    ∙ ap (λ (t : List Bool). a ++ t) (sym (bits_of-drop 3 bytes)) in (
      s.0,
      whole ∙ ap (λ (t : List Bool). t ++ b) (number_text 24 a len_a)
          ∙ ap (λ (t : List Bool). spelled 24 n ++ t) (number_text 16 b len_b) ∙ s.1,
    )

pub read_text : (clock : Clock) (m : Message) (bytes : List ℕ) → message_in clock bytes ≡ Ok m
    → IsRead clock m (bits_of bytes)
unfolding message_in
read_text clock m bytes e = at_three (length bytes == 3) refl e
  where
    at_five : (b : Bool) → (length bytes == 5) ≡ b
        → cond b (long_message clock (number (bits_of (take 3 bytes))) (number (bits_of (drop 3 bytes)))) (Err Length)
        ≡ Ok m → IsRead clock m (bits_of bytes)
    at_five true is found = read_long clock m bytes (eqb-true (length bytes) 5 is) found
    at_five false is found = absurd cc

    at_three : (b : Bool) → (length bytes == 3) ≡ b
        → cond b (short_message clock (number (bits_of bytes)))
        (cond (length bytes == 5) (long_message clock (number (bits_of (take 3 bytes)))
        (number (bits_of (drop 3 bytes)))) (Err Length)) ≡ Ok m → IsRead clock m (bits_of bytes)
    at_three true is found = read_short clock m bytes (eqb-true (length bytes) 3 is) found
    at_three false is found = at_five (length bytes == 5) refl found

-- ---- in a header

flags_spelt : (marks : ℕ) → marks < 2 ^ 14 → Spells flags marks (flags_text (Some marks))
unfolding flags
flags_spelt marks h =
    let k : ℕ = flags_code (turned marks) (turned (marks / 2 ^ 7)) in
    let r = flags_read marks h in
    let low : k < 2 ^ 16 = omega (arith, turned_low marks, turned_low (marks / 2 ^ 7)) in
    spells_whole _ marks _ _ (append-nil (spelled 16 k)
    ∙ marks_text marks) (spells_field 16 allowed_markers _ marks k [] low (rw r.markers refl)
    (subst (λ (v : ℕ). Spells (done v) marks []) (sym r.marks_are) (spells_done marks)))

done_is : (v m : Message) → v ≡ m → Spells (done v) m []
done_is v m is = subst (λ (x : Message). Spells (done x) m []) (sym is) (spells_done m)

-- the text of a message spells it
pub field_spells : (clock : Clock) (m : Message) → IsMessage clock m → Spells (message clock) m (message_text m)
unfolding message message_text
field_spells clock m h =
    let c = code_is clock m h in
    let n : ℕ = code_of m in
    let long : is_marked_by (message_marks m) ≡ is_long n = fault_length clock (is_marked_by (message_marks m)) n c.free
    in
    let free : allowed_message clock n ≡ None = ap (λ (b : Bool). is_fault (message_fault clock b n)) (sym long)
    ∙ ap is_fault c.free in
    let more : Spells (either (is_long n) (part flags any (λ marks. done (message_value n (Some marks))))
    (done (message_value n None))) m (flags_text (message_marks m)) =
    subst (λ (b : Bool). Spells (either b (part flags any (λ marks. done (message_value n (Some marks))))
    (done (message_value n None))) m (flags_text (message_marks m))) long (at_marks (message_marks m) refl c.value) in
    let text : spelled 24 n ++ flags_text (message_marks m) ≡ message_text m = ap (λ (t : List Bool). t
    ++ flags_text (message_marks m)) (first_is clock m h) in
    spells_whole _ m _ _ text (spells_field 24 (allowed_message clock) _ m n (flags_text (message_marks m))
    (first_below clock m h) free more)
  where
    at_marks : (o : Option ℕ) → message_marks m ≡ o → message_value (code_of m) (message_marks m) ≡ m
        → Spells (either (is_marked_by o) (part flags any (λ marks. done (message_value (code_of m) (Some marks))))
        (done (message_value (code_of m) None))) m (flags_text o)
    at_marks None is value = done_is _ m (ap (message_value (code_of m)) (sym is) ∙ value)
    at_marks (Some marks) is value =
        spells_whole _ m _ _ (append-nil (flags_text (Some marks)))
        (spells_part flags any _ m marks (flags_text (Some marks)) []
        (flags_spelt marks (marks_below clock m marks h is)) refl
        (done_is _ m (ap (message_value (code_of m)) (sym is) ∙ value)))

free_is : (o : Option MessageFault) → is_fault o ≡ None → o ≡ None
free_is None e = refl
free_is (Some x) e = absurd cc

marked_free : (k : ℕ) → allowed_markers k ≡ None → has_markers k ≡ true
marked_free k e = at_test (has_markers k) refl e
  where
    at_test : (t : Bool) → has_markers k ≡ t → cond t None (Some faults.Messages) ≡ None → has_markers k ≡ true
    at_test true is free = is
    at_test false is free = absurd cc

-- the field of flags
record HasFlags (marks : ℕ) (bits : List Bool) : Type 0 where
  number : ℕ
  low : number < 2 ^ 16
  markers : has_markers number ≡ true
  text : bits ≡ spelled 16 number
  value : marks ≡ marks_in number

flags_are : (marks : ℕ) (bits : List Bool) → Spells flags marks bits → HasFlags marks bits
unfolding flags Spells
flags_are marks bits h = record {
  number = h.0;
  low = h.2;
  markers = marked_free h.0 h.3;
  text = h.4 ∙ ap (λ (t : List Bool). spelled 16 h.0 ++ t) h.5.1 ∙ append-nil (spelled 16 h.0);
  value = h.5.0;
}

-- what spells a message spells one in its ranges, and is its text
pub spelled_field : (clock : Clock) (m : Message) (bits : List Bool) → Spells (message clock) m bits
    → IsRead clock m bits
unfolding message Spells
spelled_field clock m bits h =
    let n = h.0 in
    let free = free_is (message_fault clock (is_long n) n) h.3 in
    at_length (is_long n) h.1 free h.5 h.4
  where
    at_length : (b : Bool) (rest : List Bool) → message_fault clock b h.0 ≡ None
        → Spells (either b (part flags any (λ marks. done (message_value h.0 (Some marks))))
        (done (message_value h.0 None))) m rest → bits ≡ spelled 24 h.0 ++ rest → IsRead clock m bits
    at_length false rest free s e =
        let r = short_is clock h.0 m h.2 free (sym s.0) in
        (r.0, e ∙ ap (λ (t : List Bool). spelled 24 h.0 ++ t) s.1 ∙ append-nil (spelled 24 h.0) ∙ r.1)
    at_length true rest free s e =
        let f = flags_are s.0 s.1 s.4 in
        let value : message_value h.0 (Some (marks_in f.number)) ≡ m = ap (λ (k : ℕ). message_value h.0 (Some k))
        (sym f.value) ∙ sym s.6.0 in
        let r = long_is clock h.0 f.number m h.2 f.low free f.markers value in
        let text : rest ≡ spelled 16 f.number = s.3 ∙ ap (λ (t : List Bool). s.1 ++ t) s.6.1 ∙ append-nil s.1
        ∙ f.text in
        (r.0, e ∙ ap (λ (t : List Bool). spelled 24 h.0 ++ t) text ∙ r.1)

flags_productive : IsProductive flags
unfolding flags IsProductive
flags_productive = λ n. tt

-- a message takes a bit at least
pub message_productive : (clock : Clock) → IsProductive (message clock)
unfolding message IsProductive
message_productive clock n = either_productive (is_long n)
    (part flags any (λ marks. done (message_value n (Some marks)))) (done (message_value n None)) (
      flags_productive,
      λ marks. tt,
    ) one
  where
    one : IsProductive (done (message_value n None))
    one = tt

-- ---- its length

length-first_text : (m : Message) → length (first_text m) ≡ 24
length-first_text (Ack tr marks) = length-fields (message_fields 3 tr tr marks)
length-first_text (Nack tr rtr marks) = length-fields (message_fields 2 tr rtr marks)

length-flags_text : (marks : Option ℕ) → 24 + length (flags_text marks) ≡ bits_with marks
length-flags_text None = refl
length-flags_text (Some marks) =
    let k : ℕ = flags_code (turned marks) (turned (marks / 2 ^ 7)) in
    omega (arith, ap length (marks_text marks), length-spelled 16 k)

pub length-message_text : (m : Message) → length (message_text m) ≡ message_bits m
unfolding message_text
length-message_text m = omega (
  arith,
  length-append (first_text m) (flags_text (message_marks m)),
  length-first_text m,
  length-flags_text (message_marks m),
)

-- what is read of bytes has numbers of the clock
pub read_range : (clock : Clock) (bytes : List ℕ) (r : Result Message MessageFault) → r ≡ message_in clock bytes
    → IfOk r (IsMessage clock)
read_range clock bytes (Ok m) e = (read_text clock m bytes (sym e)).0
read_range clock bytes (Err fault) e = tt
