-- How long packets take on their way. Lists of arrivals have the newest first.
use Rattle.std.specs.Prelude.{ℕ, ◌+◌, ◌-◌, ◌/◌, ◌==◌, min, nat_le, List, [], ◌∷◌, ◌++◌, map, filter, flat_map, take, if◌then◌else◌}
use Rattle.playout_times.specs.declared.arrival.Arrival.{Arrival}

-- The time between a picture's capture and the arrival of a packet of it. The two clocks have no
-- common zero, so it is known but for a constant: 2^62 is added, and it is never negative.
abbrev pub transit : Arrival → ℕ
transit a = a.at + 4611686018427387904 - a.captured

abbrev pub ways : List Arrival → List ℕ
ways arrivals = map transit arrivals

-- the least of these numbers of 64 bits: of none the greatest that there is
abbrev pub least_number : List ℕ → ℕ
least_number [] = 18446744073709551615
least_number (n ∷ ns) = min n (least_number ns)

-- the quarter of a second in which a time lies
abbrev pub quarter_of : ℕ → ℕ
quarter_of time = time / 250000000

-- those of the quarter of a second of this time, and of the two before
abbrev pub recent : ℕ → List Arrival → List Arrival
recent now past = filter (λ a. nat_le (quarter_of now) (quarter_of a.at + 2)) past

-- an arrival and the runs before it: it is of the last of these where it is of the same picture
abbrev pub onto : Arrival → List (List Arrival) → List (List Arrival)
onto a [] = (a ∷ []) ∷ []
onto a ([] ∷ before) = (a ∷ []) ∷ before
onto a ((b ∷ run) ∷ before) =
    if a.picture == b.picture
    then (a ∷ b ∷ run) ∷ before
    else (a ∷ []) ∷ (b ∷ run) ∷ before

-- the longest runs of arrivals of one picture
abbrev pub runs : List Arrival → List (List Arrival)
runs [] = []
runs (a ∷ past) = onto a (runs past)

-- those of the last three runs
abbrev pub latest : List Arrival → List Arrival
latest past = flat_map (λ run. run) (take 3 (runs past))

-- The arrivals whose ways count: those of three quarters of a second at most, and those of the last
-- three runs, however long ago they came.
abbrev pub counted : List Arrival → List Arrival
counted [] = []
counted (a ∷ past) = recent a.at (a ∷ past) ++ latest (a ∷ past)

unfoldable pub least_way : List Arrival → ℕ
least_way past = least_number (ways (counted past))
