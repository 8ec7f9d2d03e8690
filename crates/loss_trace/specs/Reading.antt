-- What the bytes of one line say: its first bytes tell which line it is.
use Rattle.std.specs.Prelude.{ℕ, Bool, ◌==◌, ◌+◌, ◌&&◌, nat_lt, nat_le, List, length, take, drop, position, codes, Option, Some, None, if◌then◌else◌}
use Rattle.std.specs.Option.{option_map}
use Rattle.std.specs.Str.{all_ascii_digits, bytes_eq}
use Rattle.std.specs.Str.Parse.{digits_value}
use Rattle.loss_trace.specs.declared.event.Event.{Event}
use Rattle.loss_trace.specs.declared.event.Event.TheVariants.{Nothing, Send, Packet, All, Back, Play}

-- 1 to 7 decimal digits
abbrev pub is_trace_number : List ℕ → Bool
is_trace_number digits = nat_lt 0 (length digits) && nat_le (length digits) 7 && all_ascii_digits digits

-- the number that they write
abbrev pub trace_number : List ℕ → Option ℕ
trace_number digits = if is_trace_number digits then Some (digits_value 10 digits) else None

-- a packet's number and place, or all packets of a picture
abbrev pub event_with_place : List ℕ → ℕ → Option Event
event_with_place place number =
    if bytes_eq place (codes "*") then Some (All number) else option_map (λ n. Packet number n) (trace_number place)

abbrev pub event_with_number : List ℕ → Option ℕ → Option Event
event_with_number place None = None
event_with_number place (Some number) = event_with_place place number

-- a number and a place, with the first full stop between them
abbrev pub with_stop : List ℕ → Option ℕ → Option Event
with_stop bytes None = None
with_stop bytes (Some stop) = event_with_number (drop (stop + 1) bytes) (trace_number (take stop bytes))

abbrev pub packet_event : List ℕ → Option Event
packet_event bytes = with_stop bytes (position (λ b. b == 46) bytes)

-- a line of one letter, or none
abbrev pub short_in : List ℕ → Option Event
short_in line =
    if bytes_eq line (codes "") then Some Nothing
    else if bytes_eq line (codes "S") then Some Send
    else if bytes_eq line (codes "P") then Some Play
    else None

-- the event that a line says, without its newline
abbrev pub event_in : List ℕ → Option Event
event_in line =
    if bytes_eq (take 2 line) (codes "D ") then packet_event (drop 2 line)
    else if bytes_eq (take 2 line) (codes "B ") then option_map (λ n. Back n) (trace_number (drop 2 line))
    else short_in line
