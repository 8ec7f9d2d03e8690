-- A line says an event exactly where it spells its parts.
use Rattle.std.proofs.Common.{◌≡◌, ℕ, ◌+◌, ◌<◌, ◌≤◌, ◌==◌, Bool, true, false, not, ◌&&◌, nat_lt, nat_le, cond, List, [], ◌∷◌, ◌++◌, length, take, drop, get_or, position, codes, Option, Some, None, refl, sym, ap, subst, ◌∙◌, arith, lit≤, add-one, append-nil, length-append}
use Rattle.std.specs.Option.{option_map}
use Rattle.std.specs.List.{position_or_len}
use Rattle.std.specs.Char.{is_ascii_digit}
use Rattle.std.specs.Str.{all_ascii_digits, bytes_eq}
use Rattle.std.specs.Str.Parse.{digits_value}
use Rattle.std.proofs.Math.Seq.{drop-cons, take-append_seam, drop-append-add}
use borrow.Author.Tests.{ltb-true, leb-true, eqb-true, lt-ltb, le-leb, ne_eqb}
use Rattle.std.proofs.lemmas.List.{take-append-drop}
use Rattle.std.proofs.lemmas.List.Quantifiers.{position-Some}
use Rattle.std.proofs.lemmas.Slice.Eq.{bytes_eq-Decides}
use Rattle.loss_trace.specs.declared.event.Event.{Event}
use Rattle.loss_trace.specs.declared.event.Event.TheVariants.{Nothing, Send, Packet, All, Back, Play}
use Rattle.loss_trace.specs.Line.{Part, Word, Number, IsNumber, IsEventPart, Spell, line_parts, IsLine}
use Rattle.loss_trace.specs.Reading.{is_trace_number, trace_number, event_with_place, event_with_number, with_stop, packet_event, short_in, event_in}

both : (a b : Bool) → a && b ≡ true → (a ≡ true) × (b ≡ true)
both true b e = (refl, e)
both false b e = absurd (cc)

and_of : (a b : Bool) → a ≡ true → b ≡ true → a && b ≡ true
and_of a b p q = (λ i. p i && q i)

if_some : {A : Type 0} (t : Bool) (x y : A) → cond t (Some x) None ≡ Some y → (t ≡ true) × (x ≡ y)
if_some true x y e = (refl, cc)
if_some false x y e = absurd (cc)

-- a number in its digits
number_is : (digits : List ℕ) (n : ℕ) → trace_number digits ≡ Some n → IsNumber n digits
number_is digits n e =
    let h = if_some (is_trace_number digits) (digits_value 10 digits) n e in
    let k = both (nat_lt 0 (length digits) && nat_le (length digits) 7) (all_ascii_digits digits) h.0 in
    let m = both (nat_lt 0 (length digits)) (nat_le (length digits) 7) k.0 in
    record { some = ltb-true 0 (length digits) m.0; few = leb-true (length digits) 7 m.1; decimal = k.1; value = h.1 }

number_found : (n : ℕ) (digits : List ℕ) → IsNumber n digits → trace_number digits ≡ Some n
number_found n digits h =
    let is : is_trace_number digits ≡ true =
    and_of (nat_lt 0 (length digits) && nat_le (length digits) 7) (all_ascii_digits digits)
    (and_of (nat_lt 0 (length digits)) (nat_le (length digits) 7) (lt-ltb 0 (length digits) h.some)
    (le-leb (length digits) 7 h.few)) h.decimal in
    (λ i. cond (is i) (Some (h.value i)) None)

-- the first full stop
abbrev is_stop : ℕ → Bool
is_stop b = b == 46

stop_parts : (bytes : List ℕ) (k : ℕ) → position is_stop bytes ≡ Some k
    → bytes ≡ take k bytes ++ 46 ∷ drop (k + 1) bytes
stop_parts bytes k e =
    let h = position-Some is_stop bytes k 0 e in
    let stop : get_or bytes k 0 ≡ 46 = eqb-true (get_or bytes k 0) 46 h.1 in
    let after : drop k bytes ≡ 46 ∷ drop (k + 1) bytes =
    drop-cons bytes k 0 h.0 ∙ (λ i. stop i ∷ drop (sym (add-one k) i) bytes) in
    sym (take-append-drop k bytes) ∙ ap (λ (l : List ℕ). take k bytes ++ l) after

digit_apart : (b : ℕ) → is_ascii_digit b ≡ true → is_stop b ≡ false
digit_apart b e =
    let h = both (nat_le 48 b) (nat_le b 57) e in
    let low : 48 ≤ b = leb-true 48 b h.0 in
    ne_eqb b 46 (λ is. omega (arith, low, is))

stop_len : (digits more : List ℕ) → all_ascii_digits digits ≡ true → position_or_len is_stop (digits ++ 46 ∷ more)
    ≡ length digits
stop_len [] more all = refl
stop_len (b ∷ digits) more all =
    let h = both (is_ascii_digit b) (all_ascii_digits digits) all in
    let apart : not (is_stop b) ≡ true = ap not (digit_apart b h.0) in
    ap (λ (t : Bool). cond t (1 + position_or_len is_stop (digits ++ 46 ∷ more)) 0) apart
    ∙ (omega (arith, stop_len digits more h.1))

stop_found : (digits more : List ℕ) → all_ascii_digits digits ≡ true → position is_stop (digits ++ 46 ∷ more)
    ≡ Some (length digits)
stop_found digits more all =
    let len : position_or_len is_stop (digits ++ 46 ∷ more) ≡ length digits = stop_len digits more all in
    let lt : length digits < length (digits ++ 46 ∷ more) = omega (arith, length-append digits (46 ∷ more)) in
    (λ i. cond (nat_lt (len i) (length (digits ++ 46 ∷ more))) (Some (len i)) None)
    ∙ ap (λ (t : Bool). cond t (Some (length digits)) None) (lt-ltb (length digits) (length (digits ++ 46 ∷ more)) lt)

-- what stands after `D `
abbrev IsPlace : Event → List ℕ → Type 0
IsPlace Nothing bytes = ⊥
IsPlace Send bytes = ⊥
IsPlace (Packet number place) bytes = Spell (Number number ∷ Word (codes ".") ∷ Number place ∷ []) bytes
IsPlace (All number) bytes = Spell (Number number ∷ Word (codes ".*") ∷ []) bytes
IsPlace (Back message) bytes = ⊥
IsPlace Play bytes = ⊥

place_line : (event : Event) (bytes : List ℕ) → IsPlace event bytes → IsLine event (codes "D " ++ bytes)
place_line Nothing bytes h = absurd h
place_line Send bytes h = absurd h
place_line (Packet number place) bytes h = (codes "D ", bytes, refl, refl, h)
place_line (All number) bytes h = (codes "D ", bytes, refl, refl, h)
place_line (Back message) bytes h = absurd h
place_line Play bytes h = absurd h

module _ (bytes digits place : List ℕ) (n : ℕ) (parts : bytes ≡ digits ++ 46 ∷ place) (number : IsNumber n digits)
    (event : Event) where
  one_place : (o : Option ℕ) → trace_number place ≡ o → option_map (λ i. Packet n i) o ≡ Some event
      → IsPlace event bytes
  one_place None is e = absurd (cc)
  one_place (Some i) is e =
      let spelled : IsPlace (Packet n i) bytes = (
        digits,
        46 ∷ place,
        parts,
        number,
        (46 ∷ [], place, refl, refl, (place, [], sym (append-nil place), number_is place i is, refl)),
      ) in
      let same : Packet n i ≡ event = cc in
      subst (λ (x : Event). IsPlace x bytes) same spelled

  a_place : (t : Bool) → bytes_eq place (codes "*") ≡ t
      → cond t (Some (All n)) (option_map (λ i. Packet n i) (trace_number place)) ≡ Some event → IsPlace event bytes
  a_place true is e =
      let star : place ≡ codes "*" = (bytes_eq-Decides place (codes "*")).0 is in
      let spelled : IsPlace (All n) bytes = (
        digits,
        46 ∷ place,
        parts,
        number,
        (46 ∷ place, [], sym (append-nil (46 ∷ place)), ap (λ (l : List ℕ). 46 ∷ l) star, refl),
      ) in
      let same : All n ≡ event = cc in
      subst (λ (x : Event). IsPlace x bytes) same spelled
  a_place false is e = one_place (trace_number place) refl e

a_number : (bytes : List ℕ) (k : ℕ) (event : Event) → position is_stop bytes ≡ Some k → (o : Option ℕ)
    → trace_number (take k bytes) ≡ o → event_with_number (drop (k + 1) bytes) o ≡ Some event → IsPlace event bytes
a_number bytes k event at None is e = absurd (cc)
a_number bytes k event at (Some n) is e =
    a_place bytes (take k bytes) (drop (k + 1) bytes) n (stop_parts bytes k at) (number_is (take k bytes) n is) event
    (bytes_eq (drop (k + 1) bytes) (codes "*")) refl e

a_stop : (bytes : List ℕ) (event : Event) (o : Option ℕ) → position is_stop bytes ≡ o → with_stop bytes o ≡ Some event
    → IsPlace event bytes
a_stop bytes event None at e = absurd (cc)
a_stop bytes event (Some k) at e = a_number bytes k event at (trace_number (take k bytes)) refl e

packet_is : (bytes : List ℕ) (event : Event) → packet_event bytes ≡ Some event → IsPlace event bytes
packet_is bytes event e = a_stop bytes event (position is_stop bytes) refl e

-- a number and a full stop are found
packet_at : (n : ℕ) (digits place : List ℕ) → IsNumber n digits → packet_event (digits ++ 46 ∷ place)
    ≡ event_with_place place n
packet_at n digits place number =
    let bytes = digits ++ 46 ∷ place in
    ap (λ (o : Option ℕ). with_stop bytes o) (stop_found digits place number.decimal)
    ∙ (λ i. event_with_number (drop-append-add digits (46 ∷ place) 1 i)
    (trace_number (take-append_seam digits (46 ∷ place) i)))
    ∙ ap (λ (o : Option ℕ). event_with_number place o) (number_found n digits number)

false_of : (t : Bool) → (t ≡ true → ⊥) → t ≡ false
false_of true none = absurd (none refl)
false_of false none = refl

no_star : (place : List ℕ) → all_ascii_digits place ≡ true → place ≡ codes "*" → ⊥
no_star place all is = let e : all_ascii_digits (codes "*") ≡ true = subst (λ (l : List ℕ). all_ascii_digits l
    ≡ true) is all in cc

with_place_at : (n i : ℕ) (place : List ℕ) → IsNumber i place → event_with_place place n ≡ Some (Packet n i)
with_place_at n i place number =
    let star : bytes_eq place (codes "*")
    ≡ false = false_of (bytes_eq place (codes "*"))
    (λ t. no_star place number.decimal ((bytes_eq-Decides place (codes "*")).0 t)) in
    ap (λ (t : Bool). cond t (Some (All n)) (option_map (λ k. Packet n k) (trace_number place))) star
    ∙ ap (λ (o : Option ℕ). option_map (λ k. Packet n k) o) (number_found i place number)

-- parts of which the last is after the first
word_after : (word rest front more : List ℕ) → rest ≡ front ++ more → front ≡ word → more ≡ [] → rest ≡ word
word_after word rest front more parts is none = parts ∙ (λ i. is i ++ none i) ∙ append-nil word

place_found : (event : Event) (bytes : List ℕ) → IsPlace event bytes → packet_event bytes ≡ Some event
place_found Nothing bytes h = absurd h
place_found Send bytes h = absurd h
place_found (Packet n i) bytes (digits, rest, parts, is, (dot, after, more, stop, (digits2, none, all, is2, end))) =
    let place : after ≡ digits2 = all ∙ ap (λ (l : List ℕ). digits2 ++ l) end ∙ append-nil digits2 in
    let whole : bytes ≡ digits ++ 46 ∷ digits2 = parts ∙ ap (λ (l : List ℕ). digits ++ l) (more
    ∙ (λ j. stop j ++ place j)) in
    ap packet_event whole ∙ packet_at n digits digits2 is ∙ with_place_at n i digits2 is2
place_found (All n) bytes (digits, rest, parts, is, (dot, none, more, stop, end)) =
    let whole : bytes ≡ digits ++ 46 ∷ 42 ∷ [] = parts
    ∙ ap (λ (l : List ℕ). digits ++ l) (word_after (codes ".*") rest dot none more stop end) in
    ap packet_event whole ∙ packet_at n digits (42 ∷ []) is
place_found (Back message) bytes h = absurd h
place_found Play bytes h = absurd h

-- a line by its first two bytes
begins : (line word : List ℕ) → bytes_eq (take 2 line) word ≡ true → line ≡ word ++ drop 2 line
begins line word e = sym (take-append-drop 2 line)
    ∙ ap (λ (l : List ℕ). l ++ drop 2 line) ((bytes_eq-Decides (take 2 line) word).0 e)

module _ (line : List ℕ) (event : Event) where
  is_empty : bytes_eq line (codes "") ≡ true → Nothing ≡ event → IsLine event line
  is_empty is same = subst (λ (x : Event). IsLine x line) same ((bytes_eq-Decides line (codes "")).0 is)

  is_word : (word : List ℕ) (x : Event) → ((l : List ℕ) → l ≡ word → IsLine x l) → bytes_eq line word ≡ true → x ≡ event
      → IsLine event line
  is_word word x spells is same = subst (λ (y : Event). IsLine y line) same
      (spells line ((bytes_eq-Decides line word).0 is))

  play_line : (l : List ℕ) → l ≡ codes "P" → IsLine Play l
  play_line l is = (codes "P", [], is, refl, refl)

  send_line : (l : List ℕ) → l ≡ codes "S" → IsLine Send l
  send_line l is = (codes "S", [], is, refl, refl)

  a_play : (t : Bool) → bytes_eq line (codes "P") ≡ t → cond t (Some Play) None ≡ Some event → IsLine event line
  a_play true is e = is_word (codes "P") Play play_line is (cc)
  a_play false is e = absurd (cc)

  a_send : (t : Bool) → bytes_eq line (codes "S") ≡ t
      → cond t (Some Send) (cond (bytes_eq line (codes "P")) (Some Play) None) ≡ Some event → IsLine event line
  a_send true is e = is_word (codes "S") Send send_line is (cc)
  a_send false is e = a_play (bytes_eq line (codes "P")) refl e

  a_short : (t : Bool) → bytes_eq line (codes "") ≡ t
      → cond t (Some Nothing) (cond (bytes_eq line (codes "S")) (Some Send)
      (cond (bytes_eq line (codes "P")) (Some Play) None)) ≡ Some event → IsLine event line
  a_short true is e = is_empty is (cc)
  a_short false is e = a_send (bytes_eq line (codes "S")) refl e

  back_line : (o : Option ℕ) → trace_number (drop 2 line) ≡ o → line ≡ codes "B " ++ drop 2 line
      → option_map (λ n. Back n) o ≡ Some event → IsLine event line
  back_line None is front e = absurd (cc)
  back_line (Some n) is front e =
      let spelled : IsLine (Back n) line = (
        codes "B ",
        drop 2 line,
        front,
        refl,
        (drop 2 line, [], sym (append-nil (drop 2 line)), number_is (drop 2 line) n is, refl),
      ) in
      let same : Back n ≡ event = cc in
      subst (λ (x : Event). IsLine x line) same spelled

  a_back : (t : Bool) → bytes_eq (take 2 line) (codes "B ") ≡ t
      → cond t (option_map (λ n. Back n) (trace_number (drop 2 line))) (short_in line) ≡ Some event → IsLine event line
  a_back true is e = back_line (trace_number (drop 2 line)) refl (begins line (codes "B ") is) e
  a_back false is e = a_short (bytes_eq line (codes "")) refl e

  a_packet : (t : Bool) → bytes_eq (take 2 line) (codes "D ") ≡ t
      → cond t (packet_event (drop 2 line)) (cond (bytes_eq (take 2 line) (codes "B "))
      (option_map (λ n. Back n) (trace_number (drop 2 line))) (short_in line)) ≡ Some event → IsLine event line
  a_packet true is e =
      subst (λ (l : List ℕ). IsLine event l) (sym (begins line (codes "D ") is))
      (place_line event (drop 2 line) (packet_is (drop 2 line) event e))
  a_packet false is e = a_back (bytes_eq (take 2 line) (codes "B ")) refl e

-- a line in which an event is found is a text of it
pub event_is : (line : List ℕ) (event : Event) → event_in line ≡ Some event → IsLine event line
event_is line event e = a_packet line event (bytes_eq (take 2 line) (codes "D ")) refl e

-- an event is found in each of its texts
pub event_found : (event : Event) (line : List ℕ) → IsLine event line → event_in line ≡ Some event
event_found Nothing line h = ap event_in h
event_found Send line (front, rest, parts, is, end) = ap event_in (word_after (codes "S") line front rest parts is end)
event_found (Packet n i) line (front, rest, parts, is, h) =
    ap event_in (parts ∙ ap (λ (l : List ℕ). l ++ rest) is) ∙ place_found (Packet n i) rest h
event_found (All n) line (front, rest, parts, is, h) =
    ap event_in (parts ∙ ap (λ (l : List ℕ). l ++ rest) is) ∙ place_found (All n) rest h
event_found (Back n) line (front, rest, parts, is, (digits, none, all, number, end)) =
    let back : rest ≡ digits = all ∙ ap (λ (l : List ℕ). digits ++ l) end ∙ append-nil digits in
    ap event_in (parts ∙ (λ i. is i ++ back i))
    ∙ ap (λ (o : Option ℕ). option_map (λ k. Back k) o) (number_found n digits number)
event_found Play line (front, rest, parts, is, end) = ap event_in (word_after (codes "P") line front rest parts is end)

-- a line of an event is short
abbrev most_of : Part → ℕ
most_of (Word word) = length word
most_of (Number n) = 7

abbrev most : List Part → ℕ
most [] = 0
most (part ∷ parts) = most_of part + most parts

part_len : (part : Part) (bytes : List ℕ) → IsEventPart part bytes → length bytes ≤ most_of part
part_len (Word word) bytes is = omega (arith, ap (λ (l : List ℕ). length l) is)
part_len (Number n) bytes is = is.few

parts_len : (parts : List Part) (bytes : List ℕ) → Spell parts bytes → length bytes ≤ most parts
parts_len [] bytes none = omega (arith, ap (λ (l : List ℕ). length l) none)
parts_len (part ∷ parts) bytes (front, rest, whole, is, h) =
    omega (
      arith,
      ap (λ (l : List ℕ). length l) whole,
      length-append front rest,
      part_len part front is,
      parts_len parts rest h,
    )

event_len : (event : Event) → most (line_parts event) ≤ 17
event_len Nothing = lit≤ tt
event_len Send = lit≤ tt
event_len (Packet n i) = lit≤ tt
event_len (All n) = lit≤ tt
event_len (Back n) = lit≤ tt
event_len Play = lit≤ tt

spell_len : (event : Event) (line : List ℕ) → IsLine event line → length line ≤ 17
spell_len event line h = omega (arith, parts_len (line_parts event) line h, event_len event)

none_or : (line : List ℕ) (o : Option Event) → event_in line ≡ o → 64 < length line → o ≡ None
none_or line None is long = refl
none_or line (Some event) is long = absurd (omega (arith, spell_len event line (event_is line event is), long))

pub long_says_none : (line : List ℕ) → 64 < length line → event_in line ≡ None
long_says_none line long = none_or line (event_in line) refl long
