-- Whole units among the packets by their places, and what goes out of them.
use Rattle.std.specs.Prelude.{◌≡◌, ℕ, ◌⊎◌, ◌+◌, ◌-◌, ◌%◌, ◌^◌, ◌<◌, ◌≤◌, nat_le, nat_eq, ◌&&◌, ◌||◌, not, Bool, true, List, [], ◌++◌, length, Option, Some, None, is_some, if◌then◌else◌}
use Rattle.h263_types.specs.declared.format.Format.{Format}
use Rattle.payload_join.specs.declared.units.Span.{Span}
use Rattle.payload_join.specs.Packet.{Packet}
use Rattle.payload_join.specs.Unit.{begins_one, follows_one, marked_at, unit_at}
use Rattle.payload_join.specs.Outgoing.{coded_from, outgoing_of}
use Rattle.payload_join.specs.Places.{place_at, window_packet, top_after}

-- packet x begins a unit, and all after it up to a number follow on
pub record IsBefore (packets : List (Option Packet)) (low number x : ℕ) : Type 0 where
  pub from : low ≤ x
  pub below : x < number
  pub begins : begins_one (place_at packets x) ≡ true
  pub follow : (m : ℕ) → x < m → m < number → follows_one (place_at packets m) ≡ true

-- the unit of packet x was not whole without packet n: n is in it, or ends it
abbrev pub is_made : (ℕ → Option Packet) → ℕ → ℕ → ℕ → Bool
is_made at n x k = nat_le n (x + k) || (nat_eq n (x + k + 1) && not (marked_at at (x + k)))

-- what goes out of the unit that packet x begins, if packet n made it whole
abbrev pub out_made : Format → (ℕ → Option Packet) → ℕ → ℕ → Option ℕ → List (List ℕ)
out_made format at n x None = []
out_made format at n x (Some k) = if is_made at n x k then outgoing_of format at x k else []

-- what goes out of a unit
abbrev pub unit_left : Format → List (Option Packet) → Option Span → List (List ℕ)
unit_left format packets None = []
unit_left format packets (Some u) = outgoing_of format (place_at packets) u.number u.follow

-- it is held whole, and short enough to be given
pub record IsWholeUnit (packets : List (Option Packet)) (u : Span) : Type 0 where
  pub number : u.number < 2 ^ 31
  pub few : u.follow < 64
  pub there : (j : ℕ) → j ≤ u.follow → is_some (place_at packets (u.number + j)) ≡ true
  pub short : length (coded_from (place_at packets) u.number (u.follow + 1)) ≤ 65400

abbrev pub IsWholeIf : List (Option Packet) → Option Span → Type 0
IsWholeIf packets None = Unit {0}
IsWholeIf packets (Some u) = IsWholeUnit packets u

-- the numbers that the code counts by: the last 16 bits of the greatest one, and 65,536
abbrev pub number_by : ℕ → ℕ → ℕ
number_by last sequence = last - (last - sequence) % 65536

-- what goes out of the unit that the packets before packet n are in, if there is one
abbrev pub IsFirstUnit : Format → List (Option Packet) → ℕ → ℕ → Option Span → Type 0
IsFirstUnit format packets last n u =
    ((x : ℕ) × IsBefore packets (last - 63) n x
    × (unit_left format packets u
    ≡ out_made format (window_packet packets last) n x (unit_at (window_packet packets last) x)))
    ⊎ (((x : ℕ) → IsBefore packets (last - 63) n x → ⊥) × (unit_left format packets u ≡ []))

-- what goes out of the unit that packet n begins
abbrev pub IsSecond : Format → List (Option Packet) → ℕ → ℕ → Option Span → Type 0
IsSecond format packets last n u =
    unit_left format packets u
    ≡ out_made format (window_packet packets last) n n (unit_at (window_packet packets last) n)

-- what is left is what goes out of the units that a packet of this sequence number made whole
pub record HasMade (format : Format) (top : Option ℕ) (sequence : ℕ)
    (packets : List (Option Packet)) (left : List (List ℕ)) : Type 0 where
  pub first : Option Span
  pub second : Option Span
  pub left_is : left ≡ unit_left format packets first ++ unit_left format packets second
  pub first_is : IsFirstUnit format packets (top_after top sequence + 65536)
      (number_by (top_after top sequence + 65536) sequence) first
  pub second_is : IsSecond format packets (top_after top sequence + 65536)
      (number_by (top_after top sequence + 65536) sequence) second
