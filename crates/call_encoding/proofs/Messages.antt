-- A message that was written is read again.
use Rattle.std.proofs.Common.{◌≡◌, ℕ, zero, suc, ◌*◌, ◌/◌, ◌<◌, ◌^◌, Bool, true, false, refl, sym, ap, ◌∙◌, subst, arith, Option, Some, None, Ok, List, [], ◌∷◌, ◌++◌, length, reverse, take, drop}
use Rattle.std.specs.Prelude.{if◌then◌else◌, ◌==◌}
use Rattle.std.proofs.Common.{◌⊎◌, inl, inr}
use Rattle.std.proofs.lemmas.List.{length-take, length-drop, length-reverse, reverse-reverse, take-append-drop}
use Rattle.back_messages.specs.Laws.{MessageLaws}
use Rattle.h263_types.specs.declared.clock.Clock.{Clock}
use Rattle.h263_types.specs.declared.params.Params.{Params}
use Rattle.h263_bits.specs.Bits.{number, spelled, bits_of}
use Rattle.h263_bits.proofs.SyntaxLaws.{number-lt, spelled-number}
use Rattle.back_messages.specs.declared.message.Message.{Message}
use Rattle.back_messages.specs.Text.{IsMessage, AreMarks, message_bits, message_text, message_in, bits_with}
use Rattle.back_messages.specs.Text as text
use Rattle.reference_selector.specs.Messages.{message_of, flags_in}
use Rattle.call_model.specs.Coding as call
use Rattle.call_model.specs.Sending.{message_flags}
use Rattle.call_model.specs.Lawful.{IsInPeriod}
use Rattle.call_decoding.specs.Rules.{rules_of}
use Rattle.call_decoding.specs.Rules as rules
use Rattle.h263_bits.specs.Bytes.{bytes_filled}
use Rattle.call_encoding.specs.Messages.{marks_of_flags, marked_message, written_message, write_message, as_read, read_message}

-- fourteen flags, or none
abbrev IsCount : ℕ → Type 0
IsCount n = (n ≡ 0) ⊎ (n ≡ 14)

count_of_flags : (version : ℕ) (n : ℕ) → n ≡ rules.flags_in_version version → IsCount n
count_of_flags version n is = go (version == 2) is
  where
    go : (t : Bool) → n ≡ (if t then 14 else 0) → IsCount n
    go true e = inr e
    go false e = inl e

-- ---- bytes

bytes_back : (n : ℕ) (bits : List Bool) → length bits ≡ 8 * n → bits_of (bytes_filled n bits) ≡ bits
unfolding bytes_filled bits_of
bytes_back zero [] long = refl
bytes_back zero (b ∷ bits) long = absurd (omega (arith, long))
bytes_back (suc n) bits long =
    let eight : length (take 8 bits) ≡ 8 = omega (arith, long, length-take 8 bits) in
    let first : spelled 8 (number (take 8 bits)) ≡ take 8 bits = ap (λ (k : ℕ). spelled k (number (take 8 bits)))
    (sym eight) ∙ spelled-number (take 8 bits) in
    let others = bytes_back n (drop 8 bits) (length-drop 8 bits ∙ omega (arith, long)) in
    ap (λ (l : List Bool). l ++ bits_of (bytes_filled n (drop 8 bits))) first
    ∙ ap (λ (l : List Bool). take 8 bits ++ l) others ∙ take-append-drop 8 bits

whole_bytes : (marks : Option ℕ) → bits_with marks ≡ 8 * (bits_with marks / 8)
whole_bytes None = refl
whole_bytes (Some marks) = refl

pub text_of_written : MessageLaws → (m : Message) → bits_of (written_message m) ≡ message_text m
unfolding written_message
text_of_written laws m = bytes_back (message_bits m / 8) (message_text m) (laws.length m
    ∙ whole_bytes (text.message_marks m))

-- ---- flags

flags_of_spelled : (marks : ℕ) → flags_in (Some marks) ≡ reverse (spelled 14 marks)
unfolding spelled
flags_of_spelled marks = refl

flags_back : (flags : List Bool) → IsCount (length flags) → flags_in (marks_of_flags flags) ≡ flags
flags_back [] count = refl
flags_back (flag ∷ flags) (inl none) = absurd (omega (arith, none))
flags_back (flag ∷ flags) (inr all) =
    let turned = reverse (flag ∷ flags) in
    let long : 14 ≡ length turned = sym all ∙ sym (length-reverse (flag ∷ flags)) in
    flags_of_spelled (number turned)
    ∙ ap reverse (ap (λ (n : ℕ). spelled n (number turned)) long ∙ spelled-number turned)
    ∙ reverse-reverse (flag ∷ flags)

few_marks : (flags : List Bool) → IsCount (length flags) → AreMarks (marks_of_flags flags)
few_marks [] count = tt
few_marks (flag ∷ flags) (inl none) = absurd (omega (arith, none))
few_marks (flag ∷ flags) (inr all) =
    subst (λ (n : ℕ). number (reverse (flag ∷ flags)) < 2 ^ n) (length-reverse (flag ∷ flags)
    ∙ all) (number-lt (reverse (flag ∷ flags)))

-- ---- the message

marked_back : (m : call.Message) → IsCount (length (message_flags m)) → message_of (marked_message m) ≡ m
marked_back (call.Ack number flags) count = ap (λ (l : List Bool). call.Ack number l) (flags_back flags count)
marked_back (call.Nack number offered flags) count = ap (λ (l : List Bool). call.Nack number offered l)
    (flags_back flags count)

marked_fits : (p : Params) (m : call.Message) → IsInPeriod (rules_of p) m → IsCount (length (message_flags m))
    → IsMessage p.clock (marked_message m)
marked_fits p (call.Ack number flags) fits count = (fits, few_marks flags count)
marked_fits p (call.Nack number offered flags) fits count = (fits.0, fits.1, few_marks flags count)

-- what reading says of a text
abbrev ReadsTexts : Type 0
ReadsTexts = (clock : Clock) (m : Message) (bytes : List ℕ) → IsMessage clock m → bits_of bytes ≡ message_text m
    → message_in clock bytes ≡ Ok m

pub message_again : MessageLaws → ReadsTexts → (p : Params) (m : call.Message) → IsInPeriod (rules_of p) m
    → length (message_flags m) ≡ (rules_of p).flags
    → read_message p.clock (write_message m) ≡ Ok m
message_again laws reads p m fits count =
    let some : IsCount (length (message_flags m)) = count_of_flags p.messages (length (message_flags m)) count in
    let read = reads p.clock (marked_message m) (written_message (marked_message m)) (marked_fits p m fits some)
    (text_of_written laws (marked_message m)) in
    ap as_read read ∙ ap Ok (marked_back m some)
