-- The parameters of a call as C has them: their numbers, and what is wrong with them.
use Rattle.std.specs.Prelude.{ℕ, ◌==◌, nat_le, Option, Some, None, Bool, Result, Ok, Err, if◌then◌else◌}
use Rattle.h263_types.specs.declared.clock.Clock.{Clock}
use Rattle.h263_types.specs.declared.clock.Clock.TheVariants.{Standard, Custom}
use Rattle.h263_types.specs.declared.format.Format.{Format}
use Rattle.h263_types.specs.declared.format.Format.TheVariants.{SubQcif, Qcif, Cif}
use Rattle.h263_types.specs.declared.params.Params.{Params}
use Rattle.h263_types.specs.declared.params.ParamFault.{ParamFault}
use Rattle.h263_types.specs.declared.params.ParamFault.TheVariants.{Quant, Keep, Radius, Limit, Slots, Lead, Messages}
use Rattle.h263_types.specs.Params.{ranges, range_verdict}
use Rattle.h263rps_c.specs.declared.asked.Asked.{Asked}

abbrev pub format_numbered : ℕ → Option Format
format_numbered n =
    if n == 1 then Some SubQcif
    else if n == 2 then Some Qcif
    else if n == 3 then Some Cif
    else None

abbrev pub clock_numbered : ℕ → Option Clock
clock_numbered n =
    if n == 0 then Some Standard
    else if n == 1 then Some Custom
    else None

-- which parameter is out of its range
abbrev pub param_number : ParamFault → ℕ
param_number Quant = 1
param_number Keep = 2
param_number Radius = 3
param_number Limit = 4
param_number Slots = 5
param_number Lead = 6
param_number Messages = 7

abbrev pub bad_format : ℕ
bad_format = 8

abbrev pub bad_clock : ℕ
bad_clock = 9

abbrev pub bad_target : ℕ
bad_target = 10

abbrev pub bad_pace : ℕ
bad_pace = 15

-- a sender fits its target by this number of a pace
abbrev pub fits_in : ℕ → Bool
fits_in pace = pace == 1

-- the bytes of the struct, and the number of another size
abbrev pub params_size : ℕ
params_size = 32

abbrev pub bad_size : ℕ
bad_size = 12

abbrev pub params_with : Asked → Format → Clock → Params
params_with a format clock =
    record {
      format = format;
      quant = a.quant;
      keep = a.keep;
      radius = a.radius;
      limit = a.limit;
      slots = a.slots;
      lead = a.lead;
      messages = a.messages;
      clock = clock;
    }

abbrev pub when_right : ℕ → ℕ → Params → Result Unit ParamFault → Result Params ℕ
when_right target pace p (Err fault) = Err (param_number fault)
when_right target pace p (Ok right) =
    if nat_le target 999999 then (if nat_le pace 1 then Ok p else Err bad_pace) else Err bad_target

abbrev pub checked_params : Asked → Format → Clock → Result Params ℕ
checked_params a format clock =
    let p = params_with a format clock in when_right a.target a.pace p (range_verdict (ranges p))

abbrev pub params_asked_in : Asked → Option Format → Option Clock → Result Params ℕ
params_asked_in a None clock = Err bad_format
params_asked_in a (Some format) None = Err bad_clock
params_asked_in a (Some format) (Some clock) = checked_params a format clock

-- the parameters, or the number of the first that is out of its range: the struct's size, the
-- format, the clock, those of a call in their order, the target, the pace
abbrev pub params_asked : Asked → Result Params ℕ
params_asked a =
    if a.size == params_size then params_asked_in a (format_numbered a.format) (clock_numbered a.clock)
    else Err bad_size

abbrev pub bad_number : ℕ
bad_number = 11

-- the same for an end that begins at a picture's number
abbrev pub params_at : ℕ → Result Params ℕ → Result Params ℕ
params_at number (Err fault) = Err fault
params_at number (Ok p) = if nat_le number 1048576 then Ok p else Err bad_number

-- in the standard clock, without a target
abbrev pub asked_with : ℕ → Params → Asked
asked_with number p =
    record {
      size = params_size;
      format = number;
      quant = p.quant;
      keep = p.keep;
      radius = p.radius;
      messages = p.messages;
      limit = p.limit;
      slots = p.slots;
      lead = p.lead;
      clock = 0;
      pace = 0;
      target = 0;
    }
