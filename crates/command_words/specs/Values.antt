-- The forms of a command's values.
use Rattle.std.specs.Prelude.{ℕ, Bool, ◌&&◌, Option, Some, None, length, nat_le, nat_lt, if◌then◌else◌, codes, option_and_then}
use Rattle.std.specs.List.{list_all}
use Rattle.std.specs.Char.{is_ascii_digit}
use Rattle.std.specs.Str.{bytes_eq}
use Rattle.std.specs.Str.Parse.{digits_value}
use Rattle.h263_types.specs.declared.clock.Clock.{Clock}
use Rattle.h263_types.specs.declared.clock.Clock.TheVariants.{Standard, Custom}
use Rattle.h263_types.specs.declared.format.Format.{Format}
use Rattle.h263_types.specs.declared.format.Format.TheVariants.{SubQcif, Qcif, Cif}
use Rattle.h263_types.specs.Texts.{Text}

-- one to `most` ASCII digits
abbrev pub is_number : ℕ → Text → Bool
is_number most text =
    nat_lt 0 (length text) && (nat_le (length text) most && list_all is_ascii_digit text)

-- the number that one to `most` digits write
abbrev pub number_in : ℕ → Text → Option ℕ
number_in most text = if is_number most text then Some (digits_value 10 text) else None

-- the number where a byte holds it; a greater one is out of the range of each parameter that a byte
-- holds
abbrev pub in_byte : ℕ → Option ℕ
in_byte n = if nat_lt n 256 then Some n else None

abbrev pub byte_in : Text → Option ℕ
byte_in text = option_and_then in_byte (number_in 6 text)

abbrev pub format_worded : Text → Option Format
format_worded text =
    if bytes_eq text (codes "sub-qcif") then Some SubQcif
    else (if bytes_eq text (codes "qcif") then Some Qcif
    else (if bytes_eq text (codes "cif") then Some Cif
    else None))

abbrev pub clock_in : Text → Option Clock
clock_in text =
    if bytes_eq text (codes "standard") then Some Standard
    else (if bytes_eq text (codes "custom") then Some Custom
    else None)

-- the value of an option by its form, or the default where the option isn't there
abbrev pub value_or : {X : Type 0} → X → (Text → Option X) → Option Text → Option X
value_or default form None = Some default
value_or default form (Some text) = form text
