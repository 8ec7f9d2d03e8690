-- What a joiner is of its parts.
use Rattle.std.specs.Prelude.{ℕ, ◌≤◌, Option}
use Rattle.h263_types.specs.declared.format.Format.{Format}
use Rattle.payload_join.specs.declared.giving.Giving.{Giving}
use Rattle.payload_join.specs.declared.units.Span.{Span}
use Rattle.payload_join.specs.Packet.{bytes_between}
use Rattle.payload_join.specs.Places.{PacketPlaces}
use Rattle.payload_join.specs.Units.{IsWholeIf}
use Rattle.payload_join.specs.Giving.{IsGiving}
use Rattle.payload_join.specs.Left.{left_in_room}
use Rattle.payload_join.specs.Joining.{Joining}

abbrev pub joining_of : PacketPlaces → Format → Option Span → Option Span → Giving → ℕ → ℕ → Joining
joining_of ring format first second giving from to =
    record {
      top = ring.top;
      packets = ring.packets;
      left = left_in_room ring format first second giving;
      given = bytes_between ring.room from to;
    }

pub record IsJoiner (ring : PacketPlaces) (first second : Option Span) (giving : Giving) (from to : ℕ)
    : Type 0 where
  pub giving_is : IsGiving giving
  pub first_is : IsWholeIf ring.packets first
  pub second_is : IsWholeIf ring.packets second
  pub order : from ≤ to
  pub end : to ≤ 65535
