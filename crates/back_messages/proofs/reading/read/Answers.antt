-- A message of three bytes and one of five are each the one that the bytes spell; any other length is its fault.
use Rattle.std.proofs.Common.{◌≡◌, ℕ, ◌+◌, ◌*◌, ◌<◌, List, [], ◌∷◌, length, take, drop, get_or, refl, sym, ◌∙◌, arith}
use Rattle.h263_bits.specs.Bits.{bits_of, number}
use Rattle.h263_bits.proofs.SyntaxLaws.{number-push}
use Rattle.back_messages.specs.Text.{message_in}
use Rattle.back_messages.proofs.Texts.{read_range}
use Rattle.back_messages.proofs.reading.read.Goals as goal

nothing : number (bits_of []) ≡ 0
unfolding number bits_of
nothing = refl

-- bytes as a number
three : (a b c : ℕ) → a < 256 → b < 256 → c < 256 → number (bits_of (a ∷ b ∷ c ∷ [])) ≡ a * 65536 + b * 256 + c
three a b c p q r = rw (
  number-push (a ∷ b ∷ []) c r,
  number-push (a ∷ []) b q,
  number-push [] a p,
  nothing,
) (omega arith)

two : (a b : ℕ) → a < 256 → b < 256 → number (bits_of (a ∷ b ∷ [])) ≡ 0 * 65536 + a * 256 + b
two a b p q = rw (number-push (a ∷ []) b q, number-push [] a p, nothing) (omega arith)

-- the numbers of three bytes
of_three : (bytes : List ℕ) → length bytes ≡ 3 → ((i : ℕ) → get_or bytes i 0 < 256) → number (bits_of bytes)
    ≡ get_or bytes 0 0 * 65536 + get_or bytes 1 0 * 256 + get_or bytes 2 0
of_three [] e fits = absurd cc
of_three (a ∷ []) e fits = absurd cc
of_three (a ∷ b ∷ []) e fits = absurd cc
of_three (a ∷ b ∷ c ∷ []) e fits = three a b c (fits 0) (fits 1) (fits 2)
of_three (a ∷ b ∷ c ∷ d ∷ more) e fits = absurd (omega arith)

-- and of five
record AreFive (bytes : List ℕ) : Type 0 where
  first : number (bits_of (take 3 bytes)) ≡ get_or bytes 0 0 * 65536 + get_or bytes 1 0 * 256 + get_or bytes 2 0
  second : number (bits_of (drop 3 bytes)) ≡ 0 * 65536 + get_or bytes 3 0 * 256 + get_or bytes 4 0

of_five : (bytes : List ℕ) → length bytes ≡ 5 → ((i : ℕ) → get_or bytes i 0 < 256) → AreFive bytes
of_five [] e fits = absurd cc
of_five (a ∷ []) e fits = absurd cc
of_five (a ∷ b ∷ []) e fits = absurd cc
of_five (a ∷ b ∷ c ∷ []) e fits = absurd cc
of_five (a ∷ b ∷ c ∷ d ∷ []) e fits = absurd cc
of_five (a ∷ b ∷ c ∷ d ∷ f ∷ []) e fits = record {
  first = three a b c (fits 0) (fits 1) (fits 2);
  second = two d f (fits 3) (fits 4);
}
of_five (a ∷ b ∷ c ∷ d ∷ f ∷ g ∷ more) e fits = absurd (omega arith)

pub returns-in-len3 : goal.returns-in-len3
unfolding message_in
returns-in-len3 c =
    let bytes = c.args.bytes.now in
    let len : length bytes ≡ 3 = omega (arith, c.in-len3.len_below, c.in-len3.len_at_least) in
    let code : number (bits_of bytes) ≡ c.number_of.result = of_three bytes len (λ i. omega (arith, c.type_inv.bytes i))
    ∙ sym c.number_of.ensures.value in
    let value : c.short_from.result ≡ message_in c.args.clock bytes = rw (len, code) c.short_from.ensures in
    record { value = value; range = read_range c.args.clock bytes c.short_from.result value }

pub returns-in-len5 : goal.returns-in-len5
unfolding message_in
returns-in-len5 c =
    let bytes = c.args.bytes.now in
    let len : length bytes ≡ 5 = omega (arith, c.in-len5.len_below, c.in-len5.len_at_least) in
    let five = of_five bytes len (λ i. omega (arith, c.type_inv.bytes i)) in
    let code : number (bits_of (take 3 bytes)) ≡ c.number_of-in-len5.result = five.first
    ∙ sym c.number_of-in-len5.ensures.value in
    let flags : number (bits_of (drop 3 bytes)) ≡ c.number_of-in-len5-2.result = five.second
    ∙ sym c.number_of-in-len5-2.ensures.value in
    let value : c.long_from.result ≡ message_in c.args.clock bytes = rw (len, code, flags) c.long_from.ensures in
    record { value = value; range = read_range c.args.clock bytes c.long_from.result value }
