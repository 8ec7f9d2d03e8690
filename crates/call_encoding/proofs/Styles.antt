-- Headers of a call and their styles.
use Rattle.std.proofs.Common.{zero, suc, ◌^◌, ◌&&◌, ltb, take, filter, ◌≡◌, ℕ, ◌+◌, ◌%◌, ◌<◌, ◌≤◌, Bool, true, false, refl, sym, ap, ◌∙◌, subst, arith, List, [], ◌∷◌, length, Option, Some, None, is_some}
use Rattle.std.specs.Prelude.{if◌then◌else◌}
use Rattle.std.proofs.lemmas.Bool.{and_from, and_parts, lt-ltb, ltb-true}
use Rattle.std.proofs.lemmas.List.{length-take, take_all}
use Rattle.h263_types.specs.declared.Kind.{Kind}
use Rattle.h263_types.specs.declared.clock.Clock.{Clock}
use Rattle.h263_types.specs.declared.clock.Clock.TheVariants.{Standard, Custom}
use Rattle.h263_types.specs.declared.format.Format.{Format}
use Rattle.h263_types.specs.declared.params.Params.{Params}
use Rattle.h263_types.specs.Blocks.{IsQuant}
use Rattle.h263_types.specs.Clocks.{half_of, period_of}
use Rattle.h263_planes.specs.Picture.{Picture}
use Rattle.back_messages.specs.declared.message.Message.{Message}
use Rattle.back_messages.specs.declared.message.Message.TheVariants.{Ack, Nack}
use Rattle.back_messages.specs.Text.{AreMarks, IsMessage}
use Rattle.picture_header.specs.declared.header.Header.{Header}
use Rattle.picture_header.specs.Ranges.{AreMessages, IsBack, IsHeader, IsReference, messages_in}
use Rattle.picture_header.specs.Text.{in_places}
use Rattle.picture_header.specs.Written.{back_bits, clock_bits, reference_bits}
use Rattle.mode_choice.specs.Choice.{choices_of}
use Rattle.packet_cutter.specs.Forms.{HaveOneForm}
use Rattle.call_model.specs.Coding as call
use Rattle.call_model.specs.Lawful.{FitsHeader}
use Rattle.call_decoding.specs.Rules.{rules_of}
use Rattle.call_decoding.specs.Styles.{Style, clock_with, header_from}
use Rattle.call_encoding.specs.Frames.{are_marks, carried, styled_header, in_format, is_of_clock, kind_of, some_reference, style_with}

pub clock_back : (clock : Clock) → clock_with (half_of clock) ≡ clock
clock_back Standard = refl
clock_back Custom = refl

-- ---- frames of the call

pub in_its_format : (f : Format) (picture : Picture) → picture.format ≡ f → in_format f picture ≡ picture
in_its_format f picture same = ap (λ (g : Format). let p : Picture = record {
  format = g;
  y = picture.y;
  cb = picture.cb;
  cr = picture.cr;
} in p) (sym same)

marks_test : (marks : Option ℕ) → are_marks marks ≡ true → AreMarks marks
marks_test None is = tt
marks_test (Some marks) is = ltb-true marks (2 ^ 14) is

marks_pass : (marks : Option ℕ) → AreMarks marks → are_marks marks ≡ true
marks_pass None is = refl
marks_pass (Some marks) is = lt-ltb marks (2 ^ 14) is

of_clock : (clock : Clock) (m : Message) → is_of_clock clock m ≡ true → IsMessage clock m
of_clock clock (Ack tr marks) is =
    let parts = and_parts (ltb tr (period_of clock)) (are_marks marks) is in
    (ltb-true tr (period_of clock) parts.0, marks_test marks parts.1)
of_clock clock (Nack tr rtr marks) is =
    let parts = and_parts (ltb tr (period_of clock)) (ltb rtr (period_of clock) && are_marks marks) is in
    let more = and_parts (ltb rtr (period_of clock)) (are_marks marks) parts.1 in
    (ltb-true tr (period_of clock) parts.0, ltb-true rtr (period_of clock) more.0, marks_test marks more.1)

passes : (clock : Clock) (m : Message) → IsMessage clock m → is_of_clock clock m ≡ true
passes clock (Ack tr marks) is = and_from _ _ (lt-ltb tr (period_of clock) is.0) (marks_pass marks is.1)
passes clock (Nack tr rtr marks) is =
    and_from _ _ (lt-ltb tr (period_of clock) is.0) (and_from _ _ (lt-ltb rtr (period_of clock) is.1)
    (marks_pass marks is.2))

one_more_filtered : (clock : Clock) (m : Message) (rest : List Message) → AreMessages clock rest → (t : Bool)
    → is_of_clock clock m ≡ t → AreMessages clock (if t then m ∷ rest else rest)
one_more_filtered clock m rest each true is = (of_clock clock m is, each)
one_more_filtered clock m rest each false is = each

are_filtered : (clock : Clock) (messages : List Message) → AreMessages clock (filter (is_of_clock clock) messages)
are_filtered clock [] = tt
are_filtered clock (m ∷ messages) =
    one_more_filtered clock m (filter (is_of_clock clock) messages) (are_filtered clock messages) (is_of_clock clock m)
    refl

are_taken : (clock : Clock) (n : ℕ) (messages : List Message) → AreMessages clock messages
    → AreMessages clock (take n messages)
are_taken clock zero messages each = tt
are_taken clock (suc n) [] each = tt
are_taken clock (suc n) (m ∷ messages) each = (each.0, are_taken clock n messages each.1)

carried_few : (clock : Clock) (messages : List Message) → length (carried clock messages) ≤ 4
unfolding carried
carried_few clock messages = omega (arith, length-take 4 (filter (is_of_clock clock) messages))

carried_each : (clock : Clock) (messages : List Message) → AreMessages clock (carried clock messages)
unfolding carried
carried_each clock messages = are_taken clock 4 (filter (is_of_clock clock) messages) (are_filtered clock messages)

filter_all : (clock : Clock) (messages : List Message) → AreMessages clock messages
    → filter (is_of_clock clock) messages ≡ messages
filter_all clock [] each = refl
filter_all clock (m ∷ messages) each = rw (passes clock m each.0)
    (ap (λ (l : List Message). m ∷ l) (filter_all clock messages each.1))

pub carried_all : (clock : Clock) (messages : List Message) → length messages ≤ 4 → AreMessages clock messages
    → carried clock messages ≡ messages
unfolding carried
carried_all clock messages few each = ap (λ (l : List Message). take 4 l) (filter_all clock messages each)
    ∙ take_all 4 messages few

-- ---- messages in their places

places_back : (messages : List Message) → length messages ≤ 4 → messages_in (in_places messages) ≡ messages
places_back [] few = refl
places_back (a ∷ []) few = refl
places_back (a ∷ b ∷ []) few = refl
places_back (a ∷ b ∷ c ∷ []) few = refl
places_back (a ∷ b ∷ c ∷ d ∷ []) few = refl
places_back (a ∷ b ∷ c ∷ d ∷ e ∷ more) few = absurd (omega (arith, few))

is_back : (clock : Clock) (messages : List Message) → length messages ≤ 4 → AreMessages clock messages
    → IsBack clock (in_places messages)
is_back clock messages few each =
    let back : messages_in (in_places messages) ≡ messages = places_back messages few in
    record {
      first = ap in_places (sym back);
      few = subst (λ (l : List Message). length l ≤ 4) (sym back) few;
      each = subst (AreMessages clock) (sym back) each;
    }

-- ---- ranges

is_reference : (clock : Clock) (reference : Option ℕ) → ((m : ℕ) → reference ≡ Some m → m < period_of clock)
    → IsReference clock (kind_of (is_some reference)) reference
is_reference clock None below = tt
is_reference clock (Some m) below = below m refl

in_range : (clock : Clock) (p : Params) (messages : List Message) (depth quant number : ℕ) (reference : Option ℕ)
    → length messages ≤ 4 → AreMessages clock messages → IsQuant quant
    → number < period_of clock → ((m : ℕ) → reference ≡ Some m → m < period_of clock)
    → (let h : Header = record {
      tr = number;
      format = p.format;
      kind = kind_of (is_some reference);
      rounding = depth % 2;
      channel = 3;
      trp = reference;
      quant = quant;
      back = in_places messages;
      clock = clock;
    } in
    IsHeader h)
in_range clock p messages depth quant number reference few each q low below = record {
  tr = low;
  rounding = omega arith;
  channel = omega arith;
  trp = is_reference clock reference below;
  quant_some = q.low;
  quant_low = q.high;
  back = is_back clock messages few each;
}

pub header_in_range : (p : Params) (messages : List Message) (predicted : Bool) (depth quant : ℕ)
    (h : call.Header Style)
    → IsQuant quant → h.style ≡ style_with p messages predicted depth quant → FitsHeader (rules_of p) predicted h
    → IsHeader (header_from h)
header_in_range p all predicted depth quant h q style fits =
    let messages = carried p.clock all in
    let made : Style → ℕ → Header = λ s half. header_from (record {
      number = h.number;
      reference = h.reference;
      half = half;
      style = s;
    }) in
    let mine : Bool → Style = λ b. style_with p all b depth quant in
    let plain : IsHeader (made (mine (is_some h.reference)) (half_of p.clock)) =
    subst (λ (c : Clock). let x : Header = record {
      tr = h.number;
      format = p.format;
      kind = kind_of (is_some h.reference);
      rounding = depth % 2;
      channel = 3;
      trp = h.reference;
      quant = quant;
      back = in_places messages;
      clock = c;
    } in IsHeader x)
    (sym (clock_back p.clock)) (in_range p.clock p messages depth quant h.number h.reference (carried_few p.clock all)
    (carried_each p.clock all) q fits.number fits.reference)
    in
    let kinded : IsHeader (made (mine predicted) (half_of p.clock)) =
    subst (λ (b : Bool). IsHeader (made (mine b) (half_of p.clock))) fits.kind plain in
    let styled : IsHeader (made h.style (half_of p.clock)) = subst (λ (s : Style). IsHeader (made s (half_of p.clock)))
    (sym style) kinded in
    subst (λ (n : ℕ). IsHeader (made h.style n)) (sym fits.half) styled

-- ---- choice and cut by the style

same_choice : (p : Params) (picture : Picture) (reference : Option Picture) (h : call.Header Style)
    → choices_of picture reference (header_from h) p ≡ choices_of picture reference (styled_header p.clock h.style) p
unfolding choices_of
same_choice p picture None h = refl
same_choice p picture (Some reference) h = refl

pub choice_is : (p : Params) (picture : Picture) (reference : Option Picture) (h : call.Header Style)
    → picture.format ≡ p.format
    → choices_of picture reference (header_from h) p ≡ choices_of (in_format p.format picture) reference
    (styled_header p.clock h.style) p
choice_is p picture reference h format =
    same_choice p picture reference h ∙ ap (λ (q : Picture). choices_of q reference (styled_header p.clock h.style) p)
    (sym (in_its_format p.format picture format))

some_where_predicted : (predicted : Bool) → is_some (some_reference (kind_of predicted)) ≡ predicted
some_where_predicted true = refl
some_where_predicted false = refl

reference_bits_same : (a b : Option ℕ) → is_some a ≡ is_some b → reference_bits a ≡ reference_bits b
reference_bits_same None None e = refl
reference_bits_same (Some m) (Some n) e = refl
reference_bits_same None (Some n) e = cc
reference_bits_same (Some m) None e = cc

pub one_style : (p : Params) (predicted : Bool) (h : call.Header Style) → FitsHeader (rules_of p) predicted h
    → h.style.kind ≡ kind_of predicted
    → HaveOneForm (header_from h) (styled_header p.clock h.style)
one_style p predicted h fits kind =
    let named : is_some h.reference ≡ is_some (some_reference h.style.kind) = fits.kind
    ∙ sym (some_where_predicted predicted) ∙ sym (ap (λ (k : Kind). is_some (some_reference k)) kind) in
    record {
      format = refl;
      kind = refl;
      named = named;
      quant = refl;
      bits =
          ap (λ (n : ℕ). 67 + clock_bits (clock_with n) + reference_bits h.reference + back_bits
          (messages_in h.style.back)) fits.half
          ∙ ap (λ (n : ℕ). 67 + clock_bits (clock_with (half_of p.clock)) + n + back_bits (messages_in h.style.back))
          (reference_bits_same h.reference (some_reference h.style.kind) named);
    }
