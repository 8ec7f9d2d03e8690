-- What is left to be given in all.
use Rattle.std.specs.Prelude.{ℕ, List, ◌++◌, Option}
use Rattle.h263_types.specs.declared.format.Format.{Format}
use Rattle.payload_join.specs.declared.giving.Giving.{Giving}
use Rattle.payload_join.specs.declared.units.Span.{Span}
use Rattle.payload_join.specs.Places.{PacketPlaces}
use Rattle.payload_join.specs.Units.{unit_left}
use Rattle.payload_join.specs.Giving.{left_in}

-- what is left is what is left of the unit in the room, and then what goes out of up to two more
abbrev pub left_in_room : PacketPlaces → Format → Option Span → Option Span → Giving → List (List ℕ)
left_in_room ring format first second giving =
    left_in giving ring.room
    ++ (unit_left format ring.packets first ++ unit_left format ring.packets second)
