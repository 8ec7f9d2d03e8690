-- When pictures are due.
use Rattle.std.specs.Prelude.{ℕ, ◌+◌, ◌-◌, nat_le, Bool, false, List, map, filter, Option, Some, None, if◌then◌else◌}
use Rattle.std.specs.List.{list_any}
use Rattle.playout_times.specs.declared.arrival.Arrival.{Arrival}
use Rattle.playout_times.specs.Ways.{least_number, least_way}

-- a packet came of this picture or of a later one
abbrev pub has_come : ℕ → List Arrival → Bool
has_come picture past = list_any (λ a. nat_le picture a.picture) past

-- When a picture was captured: no later than any after it. So this is the earliest time that a
-- packet of it, or of a later one, says.
unfoldable pub captured_from : ℕ → List Arrival → ℕ
captured_from picture past = least_number (map (λ a. a.captured) (filter (λ a. nat_le picture a.picture) past))

-- the time at which a picture that was captured then is due, or 0 where that lies before the clock's
-- zero
abbrev pub due_at : ℕ → ℕ → List Arrival → ℕ
due_at wait captured past = captured + least_way past + wait - 4611686018427387904

-- When a picture is due: at its time of capture, plus the least way, plus the wait. Where nothing
-- came of it or of a later one that isn't known yet: perhaps the camera paused.
abbrev pub due_of : ℕ → ℕ → List Arrival → Option ℕ
due_of wait picture past =
    if has_come picture past
    then Some (due_at wait (captured_from picture past) past)
    else None

-- it is due by now
abbrev pub is_due_by : ℕ → Option ℕ → Bool
is_due_by now None = false
is_due_by now (Some time) = nat_le time now
