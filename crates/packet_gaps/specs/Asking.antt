-- Which packets may be asked for, and how a Generic NACK says it (RFC 4585, 6.2.1).
use Rattle.std.specs.Prelude.{ℕ, zero, suc, ◌+◌, ◌-◌, ◌*◌, ◌%◌, min, ◌==◌, nat_lt, nat_le, Bool, true, false, List, [], map, filter, find, Option, Some, None, if◌then◌else◌}
use Rattle.std.specs.List.{list_any}
use Rattle.packet_gaps.specs.declared.gap.Gap.{Gap}
use Rattle.packet_gaps.specs.declared.gaps.Nack.{Nack}
use Rattle.packet_gaps.specs.declared.moment.Moment.{Moment}

-- ---- which

-- when a picture is due: so many periods after the next one
abbrev pub moment_due : Moment → ℕ → ℕ
moment_due m picture = m.due + (picture - m.next) * m.period

-- it isn't played yet, and an answer comes by the time at which it is due
abbrev pub is_in_time : Moment → ℕ → Bool
is_in_time m picture =
    if nat_lt picture m.next then false else nat_le (m.time + m.round_trip) (moment_due m picture)

-- it was never asked for; or once, a round trip ago or longer
abbrev pub has_waited : Moment → Gap → Bool
has_waited m g =
    if g.asked == 0
    then true
    else if nat_le 2 g.asked then false else nat_le m.round_trip (m.time - g.last)

-- it is behind the newest by less than half of 65,536: its 16 bits, counted on, are its number
abbrev pub is_behind_newest : ℕ → Gap → Bool
is_behind_newest newest g = nat_lt (newest - g.number) 32768

abbrev pub may_ask : Moment → ℕ → Gap → Bool
may_ask m newest g =
    if is_behind_newest newest g
    then if has_waited m g then is_in_time m g.picture else false
    else false

-- ---- the field

-- it is so many after this one, and may be asked for
abbrev pub is_asked_gap : Moment → ℕ → ℕ → ℕ → Gap → Bool
is_asked_gap m newest first i g =
    if g.number == first + i then may_ask m newest g else false

abbrev pub is_asked : Moment → ℕ → List Gap → ℕ → ℕ → Bool
is_asked m newest gaps first i = list_any (is_asked_gap m newest first i) gaps

abbrev pub mask_bit : Bool → ℕ
mask_bit bit = if bit then 1 else 0

-- so many bits from bit i on, that being the least significant one
abbrev pub mask_of : (ℕ → Bool) → ℕ → ℕ → ℕ
mask_of is zero i = 0
mask_of is (suc n) i = mask_bit (is i) + 2 * mask_of is n (i + 1)

-- PID is the first packet that may be asked for. Bit i of the BLP, from 1 at the least significant
-- one, says that packet PID + i may be, too.
abbrev pub field_of : Moment → ℕ → List Gap → Option Gap → Option Nack
field_of m newest gaps None = None
field_of m newest gaps (Some g) =
    Some (record {
      packet = g.number % 65536;
      following = mask_of (is_asked m newest gaps g.number) 16 1;
    })

abbrev pub nack_of : Moment → Option ℕ → List Gap → Option Nack
nack_of m None gaps = None
nack_of m (Some newest) gaps = field_of m newest gaps (find (may_ask m newest) gaps)

-- ---- once it was asked

abbrev pub asked_again : ℕ → Gap → Gap
asked_again now g =
    record { number = g.number; picture = g.picture; asked = min (g.asked + 1) 255; last = now }

-- the field with this PID asks for it
abbrev pub is_in_nack : Moment → ℕ → ℕ → Gap → Bool
is_in_nack m newest first g =
    if nat_lt g.number first
    then false
    else if nat_lt 16 (g.number - first) then false else may_ask m newest g

abbrev pub when_told : Moment → ℕ → ℕ → Gap → Gap
when_told m newest first g =
    if is_in_nack m newest first g then asked_again m.time g else g

abbrev pub told_from : Moment → ℕ → List Gap → Option Gap → List Gap
told_from m newest gaps None = gaps
told_from m newest gaps (Some g) = map (when_told m newest g.number) gaps

abbrev pub after_asking : Moment → Option ℕ → List Gap → List Gap
after_asking m None gaps = gaps
after_asking m (Some newest) gaps = told_from m newest gaps (find (may_ask m newest) gaps)

-- ---- those that it asks for

abbrev pub gaps_told_by : Moment → ℕ → List Gap → Option Gap → List Gap
gaps_told_by m newest gaps None = []
gaps_told_by m newest gaps (Some g) = filter (is_in_nack m newest g.number) gaps

abbrev pub gaps_asked_for : Moment → Option ℕ → List Gap → List Gap
gaps_asked_for m None gaps = []
gaps_asked_for m (Some newest) gaps = gaps_told_by m newest gaps (find (may_ask m newest) gaps)
