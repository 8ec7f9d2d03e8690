-- What waits on the line.
use Rattle.std.specs.Prelude.{ℕ, ◌+◌, ◌-◌, ◌*◌, ◌/◌, min, max, nat_le, nat_lt, Bool, if◌then◌else◌}
use Rattle.line_follower.specs.declared.debt.Debt.{Debt}
use Rattle.line_follower.specs.declared.least_trip.LeastTrip.{LeastTrip}

-- ---- the least round trip, in microseconds

abbrev pub first_trip : ℕ → LeastTrip
first_trip now = record { began = now; before = 4294967295; least = 4294967295 }

-- its five seconds are over
abbrev pub is_trip_old : ℕ → LeastTrip → Bool
is_trip_old now l = nat_lt 5000000000 (now - l.began)

abbrev pub trips_after : ℕ → ℕ → LeastTrip → LeastTrip
trips_after trip now l =
    if is_trip_old now l
    then record { began = now; before = l.least; least = trip }
    else record { began = l.began; before = l.before; least = min l.least trip }

abbrev pub least_trip_of : LeastTrip → ℕ
least_trip_of l = min l.before l.least

-- ---- what was sent beyond the rate, in billionths of a byte

abbrev pub first_debt : ℕ → Debt
first_debt now = record { owed = 0; at = now }

-- what the rate hasn't carried by now
abbrev pub drained : ℕ → ℕ → Debt → Debt
drained rate now d = record { owed = d.owed - (now - d.at) * rate; at = now }

abbrev pub debt_with : ℕ → Debt → Debt
debt_with bytes d =
    record { owed = min (d.owed + bytes * 1000000000) 18446744073709551615; at = d.at }

-- a fifth of a second of the rate at most
abbrev pub capped : ℕ → Debt → Debt
capped rate d = record { owed = min d.owed (rate * 200000000); at = d.at }

-- at least what the rate carries in so many microseconds, up to a fifth of a second
abbrev pub with_queue : ℕ → ℕ → Debt → Debt
with_queue micros rate d = record { owed = max d.owed (min micros 200000 * rate * 1000); at = d.at }

abbrev pub is_small : ℕ → Debt → Bool
is_small rate d = nat_le d.owed (rate * 200000000)

abbrev pub bytes_owed : Debt → ℕ
bytes_owed d = d.owed / 1000000000
