-- What a line of a group's trace says.
use Rattle.std.specs.Prelude.{ℕ, nat_le, List, take, drop, codes, Option, Some, None, if◌then◌else◌}
use Rattle.std.specs.Str.{bytes_eq}
use Rattle.loss_trace.specs.declared.event.Event.{Event}
use Rattle.loss_trace.specs.declared.event.Event.TheVariants as says
use Rattle.loss_trace.specs.Reading.{event_in}
use Rattle.group_command.specs.declared.line.GroupLine.{GroupLine}
use Rattle.group_command.specs.declared.line.GroupLine.TheVariants.{Quiet, ForAll, Of}
use Rattle.group_command.specs.declared.line.OwnEvent.TheVariants as own

-- an event of the receiver at this place: a capture is nobody's own, and there is no empty one
abbrev pub of_one : ℕ → Option Event → Option GroupLine
of_one place None = None
of_one place (Some says.Nothing) = None
of_one place (Some says.Send) = None
of_one place (Some (says.Packet n j)) = Some (Of place (own.Packet n j))
of_one place (Some (says.All n)) = Some (Of place (own.All n))
of_one place (Some (says.Back m)) = Some (Of place (own.Back m))
of_one place (Some says.Play) = Some (Of place own.Play)

-- the event that a line says where there are so many receivers, which begins with a receiver's number
-- where it is not for all; without one the line is bad
abbrev pub group_line : ℕ → List ℕ → Option GroupLine
group_line count line =
    if bytes_eq line (codes "") then Some Quiet
    else if bytes_eq line (codes "S") then Some ForAll
    else if bytes_eq (take 2 line) (codes "1 ") then of_one 0 (event_in (drop 2 line))
    else if bytes_eq (take 2 line) (codes "2 ") then (if nat_le 2 count then of_one 1 (event_in (drop 2 line))
    else None)
    else if bytes_eq (take 2 line) (codes "3 ") then (if nat_le 3 count then of_one 2 (event_in (drop 2 line))
    else None)
    else None
