-- The number that digits write, parsed.
use Rattle.std.proofs.Common.{◌≡◌, ◌<◌, ◌≤◌, ◌&&◌, ◌^◌, ℕ, Bool, true, false, length, rules, arith, Result, Ok, refl}
use Rattle.std.specs.Prelude.{nat_le, nat_lt}
use Rattle.std.specs.Char.{is_ascii_digit}
use Rattle.std.specs.List.{list_all}
use Rattle.std.specs.Str.Parse.{ParsesUnsigned, digits_value}
use Rattle.std.proofs.lemmas.Str.Parse.{IsNumeralModel, digits_value_short, numerals_by_value, parse_gives}
use Rattle.h263_types.specs.Texts.{Text}
use Rattle.command_words.specs.Values.{is_number}

own : IsNumeralModel (λ ds. list_all is_ascii_digit ds ≡ true) (digits_value 10)
own = numerals_by_value (λ ds. list_all is_ascii_digit ds ≡ true) (search rules)

both : (a b : Bool) → (a && b) ≡ true → (a ≡ true) × (b ≡ true)
both true true e = (refl, refl)
both true false e = cc
both false b e = cc

pub number_short : (most : ℕ) (text : Text) → is_number most text ≡ true → (0 < length text) × (length text ≤ most)
    × (list_all is_ascii_digit text ≡ true)
number_short most text h =
    let first = both (nat_lt 0 (length text)) (nat_le (length text) most && list_all is_ascii_digit text) h in
    let second = both (nat_le (length text) most) (list_all is_ascii_digit text) first.1 in
    (grind (arith, first.0), grind (arith, second.0), second.1)

pub number_below : (most : ℕ) (text : Text) → is_number most text ≡ true → digits_value 10 text < 10 ^ most
number_below most text h =
    let s = number_short most text h in
    digits_value_short own text most s.2 s.1

pub number_read : (E : Type 0) (most : ℕ) (text : Text) (r : Result ℕ E) → is_number most text ≡ true → most ≤ 9
    → ParsesUnsigned 32 10 text r → r ≡ Ok (digits_value 10 text)
number_read E most text r h small parses =
    let s = number_short most text h in
    let short : length text ≤ 9 = omega arith in
    let below : digits_value 10 text < 10 ^ 9 = digits_value_short own text 9 s.2 short in
    parse_gives own 32 text r parses s.2 s.0 (omega arith)
