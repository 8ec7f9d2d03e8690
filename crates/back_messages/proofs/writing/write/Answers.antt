use Rattle.std.proofs.Common.{◌≡◌, ℕ, ◌++◌, List, ◌/◌, ◌%◌, ◌^◌, ◌<◌, [], ◌∷◌, Bool, Some, None, sym, ap, ◌∙◌}
use Rattle.h263_bits.specs.Bits.{bits_of, spelled}
use Rattle.back_messages.specs.declared.message.Message.{Message}
use Rattle.back_messages.specs.Text.{first_text, flags_text, message_text, message_marks}
use Rattle.back_messages.proofs.Texts.{three_bytes, five_bytes, text_short, text_long, text_read}
use Rattle.back_messages.proofs.writing.write.Goals as goal

short : (m : Message) (n : ℕ) → n < 2 ^ 24 → spelled 24 n ≡ first_text m → message_marks m ≡ None
    → bits_of (n / 65536 ∷ n / 256 % 256 ∷ n % 256 ∷ []) ≡ message_text m
short m n small text none = three_bytes n small ∙ text ∙ sym (text_short m none)

long : (m : Message) (n k marks : ℕ) → n < 2 ^ 24 → k < 2 ^ 16 → spelled 24 n ≡ first_text m
    → spelled 16 k ≡ flags_text (Some marks) → message_marks m ≡ Some marks
    → bits_of (n / 65536 ∷ n / 256 % 256 ∷ n % 256 ∷ k / 256 ∷ k % 256 ∷ []) ≡ message_text m
long m n k marks small low text flags some =
    five_bytes n k small low ∙ ap (λ (t : List Bool). t ++ spelled 16 k) text
    ∙ ap (λ (t : List Bool). first_text m ++ t) flags ∙ sym (text_long m marks some)

pub returns-in-None-clause-text : goal.returns-in-None-clause-text
returns-in-None-clause-text c = short c.args.message.now c.first_code-code.result c.first_code-code.ensures.below
    c.first_code-code.ensures.text (sym c.marks.ensures ∙ c.in-None.is)

pub returns-in-None-clause-again : goal.returns-in-None-clause-again
returns-in-None-clause-again c = λ clock is.
    text_read clock c.args.message.now _ is
    (short c.args.message.now c.first_code-code.result c.first_code-code.ensures.below
    c.first_code-code.ensures.text (sym c.marks.ensures ∙ c.in-None.is))

pub returns-in-Some-clause-text : goal.returns-in-Some-clause-text
returns-in-Some-clause-text c =
    long c.args.message.now c.first_code-code.result c.flags_code-flags.result c.in-Some.marks
    c.first_code-code.ensures.below c.flags_code-flags.ensures.below c.first_code-code.ensures.text
    c.flags_code-flags.ensures.text (sym c.marks.ensures ∙ c.in-Some.is)

pub returns-in-Some-clause-again : goal.returns-in-Some-clause-again
returns-in-Some-clause-again c = λ clock is.
    text_read clock c.args.message.now _ is
    (long c.args.message.now c.first_code-code.result c.flags_code-flags.result c.in-Some.marks
    c.first_code-code.ensures.below c.flags_code-flags.ensures.below c.first_code-code.ensures.text
    c.flags_code-flags.ensures.text (sym c.marks.ensures ∙ c.in-Some.is))
