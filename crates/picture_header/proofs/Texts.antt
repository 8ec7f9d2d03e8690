-- What is written of a header spells it.
use Rattle.std.proofs.Common.{◌≡◌, ℕ, ◌+◌, ◌-◌, ◌*◌, ◌/◌, ◌%◌, ◌^◌, ◌<◌, ◌≤◌, Bool, true, false, cond, List, [], ◌∷◌, ◌++◌, length, Option, Some, None, refl, sym, ap, subst, ◌∙◌, append_assoc, arith}
use Rattle.std.proofs.lemmas.Bool.{lt-ltb, le-ltb, lt-leb, eqb-true}
use Rattle.std.proofs.lemmas.List.{append-nil, length-append}
use Rattle.h263_types.specs.declared.format.Format.{Format}
use Rattle.h263_types.specs.declared.format.Format.TheVariants as formats
use Rattle.h263_types.specs.declared.Kind.{Kind}
use Rattle.h263_types.specs.declared.Kind.TheVariants as kinds
use Rattle.std.specs.Prelude.{◌==◌}
use Rattle.h263_bits.specs.declared.fault.FaultKind.TheVariants as faults
use Rattle.h263_bits.specs.Bits.{spelled, fields}
use Rattle.h263_bits.specs.Syntax.{any, repeat, done, Spells}
use Rattle.h263_bits.proofs.SyntaxLaws.{length-spelled, spells_field, spells_done, spells_part, spells_element, spells_last, spells_turn, spells_whole, length-fields}
use Rattle.back_messages.specs.declared.message.Message.{Message}
use Rattle.h263_types.specs.declared.clock.Clock.{Clock}
use Rattle.h263_types.specs.declared.clock.Clock.TheVariants.{Standard, Custom}
use Rattle.h263_types.specs.Clocks.{period_of}
use Rattle.back_messages.specs.Text.{IsMessage, message, message_text, bits_with, message_marks}
use Rattle.back_messages.specs.Laws.{MessageLaws}
use Rattle.picture_header.specs.declared.header.Header.{Header}
use Rattle.picture_header.specs.Text.{opening, plus_type, multipoint, extended, channel, reference, bci, bci_room, next_message, messages_after, back_turn, back, in_places, extra, extra_turn, header, allowed_format, format_code, allowed_low, allowed_quant}
use Rattle.picture_header.specs.Ranges.{IsReference, HasTenBits, AreMessages, IsBack, IsHeader, messages_in}
use Rattle.picture_header.specs.Written.{opening_fields, plus_fields, multipoint_fields, extended_fields, channel_fields, reference_fields, reference_bits, clock_bits, back_bits, bci_text, written_front, written_rest, written_header, written_bits}
use Rattle.picture_header.specs.Laws.{IsShort}

opening_spelt : (tr : ℕ) → Spells opening (tr % 256) (fields (opening_fields tr))
unfolding opening
opening_spelt tr = spells_field 6 _ _ _ 32 _ (omega arith) refl (spells_field 8 _ _ _ (tr % 256) _ (omega arith) refl
    (spells_field 2 _ _ _ 2 _ (omega arith) refl (spells_field 3 _ _ _ 0 _ (omega arith) refl
    (spells_field 3 _ _ _ 7 _ (omega arith) refl (spells_done _)))))

format_allowed : (format : Format) → allowed_format format (format_code format) ≡ None
format_allowed formats.SubQcif = refl
format_allowed formats.Qcif = refl
format_allowed formats.Cif = refl

format_below : (format : Format) → format_code format < 2 ^ 3
format_below formats.SubQcif = omega arith
format_below formats.Qcif = omega arith
format_below formats.Cif = omega arith

plus_spelt : (format : Format) (clock : Clock) (kind : Kind) (rounding : ℕ) → rounding ≤ 1
    → Spells (plus_type format) (clock, kind, rounding) (fields (plus_fields format clock kind rounding))
unfolding plus_type
plus_spelt format Standard kinds.I r lt = spells_field 3 _ _ _ 1 _ (omega arith) refl
    (spells_field 3 _ _ _ (format_code format) _ (format_below format) (format_allowed format)
    (spells_field 1 _ _ _ 0 _ (omega arith) refl (spells_field 10 _ _ _ 24 _ (omega arith) refl
    (spells_field 4 _ _ _ 8 _ (omega arith) refl (spells_field 3 _ _ _ 0 _ (omega arith) refl
    (spells_field 2 _ _ _ 0 _ (omega arith) refl (spells_field 1 _ _ _ r _ (omega arith) refl
    (spells_field 3 _ _ _ 1 _ (omega arith) refl (spells_done _)))))))))
plus_spelt format Standard kinds.P r lt = spells_field 3 _ _ _ 1 _ (omega arith) refl
    (spells_field 3 _ _ _ (format_code format) _ (format_below format) (format_allowed format)
    (spells_field 1 _ _ _ 0 _ (omega arith) refl (spells_field 10 _ _ _ 24 _ (omega arith) refl
    (spells_field 4 _ _ _ 8 _ (omega arith) refl (spells_field 3 _ _ _ 1 _ (omega arith) refl
    (spells_field 2 _ _ _ 0 _ (omega arith) refl (spells_field 1 _ _ _ r _ (omega arith) refl
    (spells_field 3 _ _ _ 1 _ (omega arith) refl (spells_done _)))))))))
plus_spelt format Custom kinds.I r lt = spells_field 3 _ _ _ 1 _ (omega arith) refl
    (spells_field 3 _ _ _ (format_code format) _ (format_below format) (format_allowed format)
    (spells_field 1 _ _ _ 1 _ (omega arith) refl (spells_field 10 _ _ _ 24 _ (omega arith) refl
    (spells_field 4 _ _ _ 8 _ (omega arith) refl (spells_field 3 _ _ _ 0 _ (omega arith) refl
    (spells_field 2 _ _ _ 0 _ (omega arith) refl (spells_field 1 _ _ _ r _ (omega arith) refl
    (spells_field 3 _ _ _ 1 _ (omega arith) refl (spells_done _)))))))))
plus_spelt format Custom kinds.P r lt = spells_field 3 _ _ _ 1 _ (omega arith) refl
    (spells_field 3 _ _ _ (format_code format) _ (format_below format) (format_allowed format)
    (spells_field 1 _ _ _ 1 _ (omega arith) refl (spells_field 10 _ _ _ 24 _ (omega arith) refl
    (spells_field 4 _ _ _ 8 _ (omega arith) refl (spells_field 3 _ _ _ 1 _ (omega arith) refl
    (spells_field 2 _ _ _ 0 _ (omega arith) refl (spells_field 1 _ _ _ r _ (omega arith) refl
    (spells_field 3 _ _ _ 1 _ (omega arith) refl (spells_done _)))))))))

multipoint_spelt : Spells multipoint tt (fields multipoint_fields)
unfolding multipoint
multipoint_spelt = spells_field 1 _ _ _ 0 _ (omega arith) refl (spells_done tt)

-- a value that a done gives is the same
done_same : (x y : ℕ) → y ≡ x → Spells (done x) y []
done_same x y e = subst (λ (z : ℕ). Spells (done z) y []) e (spells_done y)

extended_spelt : (clock : Clock) (tr : ℕ) → tr < period_of clock
    → Spells (extended clock (tr % 256)) tr (fields (extended_fields clock tr))
unfolding extended
extended_spelt Standard tr h = done_same (tr % 256) tr (omega arith)
extended_spelt Custom tr h = spells_field 8 _ _ _ 188 _ (omega arith) refl
    (spells_field 2 _ _ _ (tr / 256) _ (omega arith) refl (done_same (256 * (tr / 256) + tr % 256) tr (omega arith)))

channel_spelt : (value : ℕ) → value ≤ 3 → Spells channel value (fields (channel_fields value))
unfolding channel
channel_spelt value h = spells_field 2 _ _ _ 0 _ (omega arith) refl (spells_field 3 _ _ _ (value + 4) _ (omega arith)
    (rw (le-ltb (value + 4) 4 (omega arith)) refl) (done_same (value + 4 - 4) value (omega arith)))

period_low : (clock : Clock) (n : ℕ) → n < period_of clock → n < 2 ^ 10
period_low Standard n h = omega arith
period_low Custom n h = omega arith

low_free : (clock : Clock) (n : ℕ) → n < period_of clock → allowed_low clock n ≡ None
low_free clock n h = rw (lt-leb (period_of clock) n h) refl

reference_spelt : (clock : Clock) (kind : Kind) (trp : Option ℕ) → IsReference clock kind trp
    → Spells (reference clock kind) trp (fields (reference_fields trp))
unfolding reference
reference_spelt clock kinds.I None h = spells_field 1 _ _ _ 0 _ (omega arith) refl (spells_done _)
reference_spelt clock kinds.I (Some t) h = absurd h
reference_spelt clock kinds.P None h = absurd h
reference_spelt clock kinds.P (Some t) h = spells_field 1 _ _ _ 1 _ (omega arith) refl
    (spells_field 10 _ _ _ t _ (period_low clock t h) (low_free clock t h) (spells_done _))

-- a reference of a header has ten bits at most
pub ten_bits : (clock : Clock) (kind : Kind) (trp : Option ℕ) → IsReference clock kind trp → HasTenBits trp
ten_bits clock kinds.I None h = tt
ten_bits clock kinds.I (Some t) h = absurd h
ten_bits clock kinds.P None h = absurd h
ten_bits clock kinds.P (Some t) h = period_low clock t h

quant_allowed : (value : ℕ) → 1 ≤ value → allowed_quant value ≡ None
quant_allowed value some = at_test (value == 0) refl
  where
    at_test : (t : Bool) → (value == 0) ≡ t → cond t (Some faults.Quant) None ≡ None
    at_test true h = absurd (omega (arith, eqb-true value 0 h))
    at_test false h = refl

extra_spelt : Spells extra tt (spelled 1 0)
unfolding extra extra_turn
extra_spelt = spells_whole _ tt _ _ (append-nil (spelled 1 0)) (spells_last tt extra_turn tt (spelled 1 0
    ++ []) (spells_field 1 any _ _ 0 [] (omega arith) refl (spells_done _)))

-- ---- messages

bci_end : Spells bci 0 (fields ((1, 0) ∷ (1, 1) ∷ []))
unfolding bci
bci_end = spells_field 1 any _ _ 0 _ (omega arith) refl (spells_field 1 _ _ _ 1 _ (omega arith) refl (spells_done _))

bci_more : Spells bci 1 (spelled 1 1)
unfolding bci
bci_more = spells_whole _ 1 _ _ (append-nil (spelled 1 1)) (spells_field 1 any _ _ 1 [] (omega arith) refl
    (spells_done _))

end_spelt : (clock : Clock) (used : ℕ) → Spells (next_message clock used) None (fields ((1, 0) ∷ (1, 1) ∷ []))
unfolding next_message
end_spelt clock used = spells_whole _ None _ _ (append-nil (fields ((1, 0) ∷ (1, 1) ∷ [])))
    (spells_element bci (bci_room used) _ None 0 _ [] bci_end refl (spells_done _))

next_spelt : MessageLaws → (clock : Clock) (used : ℕ) (m : Message) → used < 4 → IsMessage clock m
    → Spells (next_message clock used) (Some m) (spelled 1 1 ++ (message_text m ++ []))
unfolding next_message
next_spelt laws clock used m room h =
    spells_element bci (bci_room used) _ (Some m) 1 (spelled 1 1) (message_text m ++ []) bci_more
    (rw (lt-ltb used 4 room) refl) (spells_part (message clock) any _ (Some m) m (message_text m) []
    (laws.spelt clock m h) refl (spells_done _))

turn_spelt : (clock : Clock) (messages : List Message) (next : Option Message) (bits : List Bool)
    → Spells (next_message clock (length messages)) next bits
    → Spells (back_turn clock messages) (messages_after messages next) bits
unfolding back_turn
turn_spelt clock messages next bits h = spells_whole _ _ _ _ (append-nil bits)
    (spells_part (next_message clock (length messages)) any _ _ next bits [] h refl (spells_done _))

messages_spelt : MessageLaws → (clock : Clock) (before messages : List Message) → length before + length messages ≤ 4
    → AreMessages clock messages → Spells (repeat before (back_turn clock)) (before ++ messages) (bci_text messages)
messages_spelt laws clock before [] few each =
    subst (λ (all : List Message). Spells (repeat before (back_turn clock)) all (bci_text []))
    (sym (append-nil before)) (spells_last before (back_turn clock) before _
    (turn_spelt clock before None _ (end_spelt clock (length before))))
messages_spelt laws clock before (m ∷ messages) few each =
    let front = spelled 1 1 ++ (message_text m ++ []) in
    let more = messages_spelt laws clock (before ++ m ∷ []) messages (omega (arith, length-append before (m ∷ [])))
    each.1 in
    let one = turn_spelt clock before (Some m) front (next_spelt laws clock (length before) m (omega arith) each.0) in
    let all : (before ++ m ∷ []) ++ messages ≡ before ++ m ∷ messages = append_assoc before (m ∷ []) messages in
    let text : front ++ bci_text messages ≡ bci_text (m ∷ messages) =
    append_assoc (spelled 1 1) (message_text m ++ []) (bci_text messages)
    ∙ ap (λ (t : List Bool). spelled 1 1 ++ (t ++ bci_text messages)) (append-nil (message_text m)) in
    spells_whole _ _ _ _ text (subst (λ (list : List Message). Spells (repeat before (back_turn clock)) list (front
    ++ bci_text messages)) all (spells_turn before (before ++ m ∷ []) (back_turn clock) _ front _ one more))

back_spelt : MessageLaws → (clock : Clock) (messages : List Message) → length messages ≤ 4 → AreMessages clock messages
    → Spells (back clock) messages (bci_text messages)
unfolding back
back_spelt laws clock messages few each = messages_spelt laws clock [] messages (omega arith) each

-- ---- the whole header

done_header : (h : Header) (places : List (Option Message)) → h.back ≡ places
    → Spells (done (record h { back = places })) h []
unfolding Spells
done_header h places e = (ap (λ (b : List (Option Message)). record h { back = b }) e, refl)

-- and its messages are those of the wider clock
pub all_wide : MessageLaws → (clock : Clock) (messages : List Message) → AreMessages clock messages
    → AreMessages Custom messages
all_wide laws clock [] each = tt
all_wide laws clock (m ∷ messages) each = (laws.wide clock m each.0, all_wide laws clock messages each.1)

front_then : (h : Header) → fields (opening_fields h.tr) ++ (fields (plus_fields h.format h.clock h.kind h.rounding)
    ++ (fields multipoint_fields ++ (fields (extended_fields h.clock h.tr) ++ written_rest h))) ≡ written_header h
front_then h = regroup (fields (opening_fields h.tr)) (fields (plus_fields h.format h.clock h.kind h.rounding))
    (fields multipoint_fields) (fields (extended_fields h.clock h.tr)) (written_rest h)
  where
    regroup : (a b c d e : List Bool) → a ++ (b ++ (c ++ (d ++ e))) ≡ (a ++ (b ++ (c ++ d))) ++ e
    regroup a b c d e = simp append_assoc

end_text : (quant : ℕ) → spelled 5 quant ++ spelled 1 0 ≡ fields ((5, quant) ∷ []) ++ fields ((1, 0) ∷ [])
end_text quant = ap (λ (t : List Bool). spelled 5 quant ++ t) (sym (append-nil (spelled 1 0)))
    ∙ ap (λ (t : List Bool). t ++ fields ((1, 0) ∷ [])) (sym (append-nil (spelled 5 quant)))

-- the text that is written of a header spells it
pub header_spelt : MessageLaws → (h : Header) → IsHeader h → Spells (header h.format) h (written_header h)
unfolding header
header_spelt laws h ok =
    spells_whole _ h _ _ (front_then h)
    (spells_part opening any _ h (h.tr % 256) _ _ (opening_spelt h.tr) refl
    (spells_part (plus_type h.format) any _ h (h.clock, h.kind, h.rounding) _ _
    (plus_spelt h.format h.clock h.kind h.rounding ok.rounding) refl
    (spells_part multipoint any _ h tt _ _ multipoint_spelt refl
    (spells_part (extended h.clock (h.tr % 256)) any _ h h.tr _ _ (extended_spelt h.clock h.tr ok.tr) refl
    (spells_part channel any _ h h.channel _ _ (channel_spelt h.channel ok.channel) refl
    (spells_part (reference h.clock h.kind) any _ h h.trp _ _ (reference_spelt h.clock h.kind h.trp ok.trp) refl
    (spells_part (back h.clock) any _ h (messages_in h.back) _ _
    (back_spelt laws h.clock (messages_in h.back) ok.back.few ok.back.each) refl
    (spells_whole _ h _ _ (ap (λ (t : List Bool). spelled 5 h.quant ++ t) (append-nil (spelled 1 0)) ∙ end_text h.quant)
    (spells_field 5 allowed_quant _ h h.quant (spelled 1 0 ++ []) (omega (arith, ok.quant_low))
    (quant_allowed h.quant ok.quant_some)
    (spells_part extra any _ h tt (spelled 1 0) [] extra_spelt refl
    (done_header h (in_places (messages_in h.back)) ok.back.first)))))))))))

-- ---- its length

length-back_text : MessageLaws → (messages : List Message) → length (bci_text messages) ≡ 2 + back_bits messages
length-back_text laws [] = length-fields ((1, 0) ∷ (1, 1) ∷ [])
length-back_text laws (m ∷ messages) =
    omega (
      arith,
      length-append (spelled 1 1) (message_text m ++ bci_text messages),
      length-append (message_text m) (bci_text messages),
      length-spelled 1 1,
      laws.length m,
      length-back_text laws messages,
    )

length-reference_fields : (trp : Option ℕ) → length (fields (reference_fields trp)) ≡ 1 + reference_bits trp
length-reference_fields None = length-fields ((1, 0) ∷ [])
length-reference_fields (Some t) = length-fields ((1, 1) ∷ (10, t) ∷ [])

length-extended_fields : (clock : Clock) (tr : ℕ) → length (fields (extended_fields clock tr)) ≡ clock_bits clock
length-extended_fields Standard tr = refl
length-extended_fields Custom tr = length-fields ((8, 188) ∷ (2, tr / 256) ∷ [])

length-front : (h : Header) → length (written_front h) ≡ 53 + clock_bits h.clock
length-front h =
    let opening = fields (opening_fields h.tr) in
    let plus = fields (plus_fields h.format h.clock h.kind h.rounding) in
    let cpm = fields multipoint_fields in
    let extended = fields (extended_fields h.clock h.tr) in
    omega (
      arith,
      length-append opening (plus ++ (cpm ++ extended)),
      length-append plus (cpm ++ extended),
      length-append cpm extended,
      length-fields (opening_fields h.tr),
      length-fields (plus_fields h.format h.clock h.kind h.rounding),
      length-fields multipoint_fields,
      length-extended_fields h.clock h.tr,
    )

length-rest : MessageLaws → (h : Header) → length (written_rest h)
    ≡ 14 + reference_bits h.trp + back_bits (messages_in h.back)
length-rest laws h =
    let channel = fields (channel_fields h.channel) in
    let reference = fields (reference_fields h.trp) in
    let back = bci_text (messages_in h.back) in
    let quant = fields ((5, h.quant) ∷ []) in
    let end = fields ((1, 0) ∷ []) in
    omega (
      arith,
      length-append channel (reference ++ (back ++ (quant ++ end))),
      length-append reference (back ++ (quant ++ end)),
      length-append back (quant ++ end),
      length-append quant end,
      length-fields (channel_fields h.channel),
      length-reference_fields h.trp,
      length-back_text laws (messages_in h.back),
      length-fields ((5, h.quant) ∷ []),
      length-fields ((1, 0) ∷ []),
    )

-- it has as many bits as are counted
pub length-written_header : MessageLaws → (h : Header) → length (written_header h) ≡ written_bits h
length-written_header laws h = omega (
  arith,
  length-append (written_front h) (written_rest h),
  length-front h,
  length-rest laws h,
)

-- ---- how long it is at most

clock_short : (clock : Clock) → clock_bits clock ≤ 10
clock_short Standard = omega arith
clock_short Custom = omega arith

reference_short : (trp : Option ℕ) → reference_bits trp ≤ 10
reference_short None = omega arith
reference_short (Some trp) = omega arith

with_short : (marks : Option ℕ) → bits_with marks ≤ 40
with_short None = omega arith
with_short (Some marks) = omega arith

pub back_short : (messages : List Message) → back_bits messages ≤ 41 * length messages
back_short [] = omega arith
back_short (m ∷ messages) = omega (arith, with_short (message_marks m), back_short messages)

pub header_short : (h : Header) → IsHeader h → written_bits h ≤ 251
header_short h ok = omega (
  arith,
  clock_short h.clock,
  reference_short h.trp,
  back_short (messages_in h.back),
  ok.back.few,
)

pub is_short : (h : Header) → IsHeader h → IsShort h
is_short h ok =
    let few = header_short h ok in
    record { bits = few; beginning = omega arith; before = omega arith; room = omega arith }

-- ---- what is read is in its ranges

-- messages in their places, four at most
pub places_are : (clock : Clock) (messages : List Message) → length messages ≤ 4 → AreMessages clock messages
    → IsBack clock (in_places messages)
places_are clock [] few each = record { first = refl; few = omega arith; each = each }
places_are clock (a ∷ []) few each = record { first = refl; few = omega arith; each = each }
places_are clock (a ∷ b ∷ []) few each = record { first = refl; few = omega arith; each = each }
places_are clock (a ∷ b ∷ c ∷ []) few each = record { first = refl; few = omega arith; each = each }
places_are clock (a ∷ b ∷ c ∷ d ∷ []) few each = record { first = refl; few = omega arith; each = each }
places_are clock (a ∷ b ∷ c ∷ d ∷ e ∷ more) few each = absurd (omega arith)

pub are-push : (clock : Clock) (messages : List Message) (m : Message) → AreMessages clock messages → IsMessage clock m
    → AreMessages clock (messages ++ m ∷ [])
are-push clock [] m each one = (one, tt)
are-push clock (a ∷ messages) m each one = (each.0, are-push clock messages m each.1 one)
