-- What a receiver says are the bytes that are written of its message.
use Rattle.std.proofs.Common.{◌≡◌, ℕ, suc, ◌*◌, ◌/◌, ◌^◌, ◌<◌, Bool, Option, Some, None, List, [], ◌∷◌, ◌++◌, length, take, drop, reverse, refl, sym, ap, ◌∙◌, arith}
use Rattle.std.proofs.Math.Nat.{mod-eq_of_lt}
use Rattle.std.proofs.lemmas.List.{take_at, drop_at, reverse-reverse}
use Rattle.h263_bits.specs.Bits.{number, bits_of, spelled}
use Rattle.h263_bits.proofs.SyntaxLaws.{length-bits_of, length-spelled, number-spelled}
use Rattle.h263_types.specs.declared.clock.Clock.{Clock}
use Rattle.back_messages.specs.Laws.{MessageLaws}
use Rattle.back_messages.specs.Text.{AreMarks, IsMessage, message_bits, message_text}
use Rattle.back_messages.specs.declared.message.Message.{Message}
use Rattle.back_messages.specs.declared.message.Message.TheVariants.{Ack, Nack}
use Rattle.h263_bits.specs.Bytes.{bytes_filled}
use Rattle.call_encoding.specs.Messages.{marked_message, marks_of_flags, written_message}
use Rattle.coded_call.specs.Bytes.{AreBytes}
use Rattle.reference_selector.specs.Messages.{flags_in, message_of}

-- ---- bytes

-- bytes are those of their bits
bytes_again : (bytes : List ℕ) → AreBytes bytes → bytes_filled (length bytes) (bits_of bytes) ≡ bytes
unfolding bytes_filled bits_of
bytes_again [] fit = refl
bytes_again (byte ∷ bytes) fit =
    let long : length (spelled 8 byte) ≡ 8 = length-spelled 8 byte in
    let front : take 8 (spelled 8 byte ++ bits_of bytes)
    ≡ spelled 8 byte = take_at (spelled 8 byte) (bits_of bytes) 8 long in
    let behind : drop 8 (spelled 8 byte ++ bits_of bytes)
    ≡ bits_of bytes = drop_at (spelled 8 byte) (bits_of bytes) 8 long in
    let small : byte < 2 ^ 8 = omega (arith, fit 0) in
    ap (λ (t : List Bool). number t ∷ bytes_filled (length bytes) (drop 8 (spelled 8 byte ++ bits_of bytes))) front
    ∙ ap (λ (n : ℕ). n ∷ bytes_filled (length bytes) (drop 8 (spelled 8 byte ++ bits_of bytes))) (number-spelled 8 byte
    ∙ mod-eq_of_lt small)
    ∙ ap (λ (t : List Bool). byte ∷ bytes_filled (length bytes) t) behind
    ∙ ap (λ (l : List ℕ). byte ∷ l) (bytes_again bytes (λ k. fit (suc k)))

eighth : (n bits : ℕ) → 8 * n ≡ bits → n ≡ bits / 8
eighth n bits e = omega (arith, e)

-- bytes whose bits are a message's text are those that are written of it
pub bytes_of_text : MessageLaws → (m : Message) (bytes : List ℕ) → AreBytes bytes → bits_of bytes ≡ message_text m
    → bytes ≡ written_message m
unfolding written_message
bytes_of_text laws m bytes fit is =
    let many : length bytes ≡ message_bits m / 8 =
    eighth (length bytes) (message_bits m) (sym (length-bits_of bytes) ∙ ap (λ (l : List Bool). length l) is
    ∙ laws.length m)
    in
    sym (bytes_again bytes fit)
    ∙ ap (λ (n : ℕ). bytes_filled n (bits_of bytes)) many
    ∙ ap (λ (l : List Bool). bytes_filled (message_bits m / 8) l) is

-- ---- flags

turned_flags : (marks : ℕ) → marks_of_flags (flags_in (Some marks))
    ≡ Some (number (reverse (reverse (spelled 14 marks))))
unfolding spelled
turned_flags marks = refl

flags_again : (marks : Option ℕ) → AreMarks marks → marks_of_flags (flags_in marks) ≡ marks
flags_again None few = refl
flags_again (Some marks) few =
    turned_flags marks
    ∙ ap (λ (l : List Bool). let m : Option ℕ = Some (number l) in m) (reverse-reverse (spelled 14 marks))
    ∙ ap (λ (n : ℕ). let m : Option ℕ = Some n in m) (number-spelled 14 marks ∙ mod-eq_of_lt few)

-- a message of a call, with its flags as marks again
pub marked_again : (clock : Clock) (m : Message) → IsMessage clock m → marked_message (message_of m) ≡ m
marked_again clock (Ack tr marks) fits = ap (λ (o : Option ℕ). Ack tr o) (flags_again marks fits.1)
marked_again clock (Nack tr rtr marks) fits = ap (λ (o : Option ℕ). Nack tr rtr o) (flags_again marks fits.2)
