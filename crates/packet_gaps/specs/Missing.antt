-- Which packets are missing.
use Rattle.std.specs.Prelude.{ℕ, zero, suc, ◌+◌, ◌-◌, ◌%◌, min, not, ◌==◌, nat_lt, nat_le, List, [], ◌∷◌, ◌++◌, map, filter, drop, length, Option, Some, None, if◌then◌else◌}
use Rattle.packet_gaps.specs.declared.gap.Gap.{Gap}

-- A packet's number, counted on: the one next to the newest that has these 16 bits. It is ahead by
-- less than half of 65,536, or it is behind, or the newest itself. Numbers end at 2^64 - 1.
abbrev pub counted_number : ℕ → ℕ → ℕ
counted_number newest sequence =
    let ahead = (sequence + 65536 - newest % 65536) % 65536 in
    if nat_lt ahead 32768
    then min (newest + ahead) 18446744073709551615
    else newest - (65536 - ahead)

-- so many numbers from this one on
abbrev pub numbers_from : ℕ → ℕ → List ℕ
numbers_from first zero = []
numbers_from first (suc n) = first ∷ numbers_from (first + 1) n

-- it was never asked for
abbrev pub gap_of : ℕ → ℕ → Gap
gap_of picture number = record { number = number; picture = picture; asked = 0; last = 0 }

-- the last so many
abbrev pub last_gaps : ℕ → List Gap → List Gap
last_gaps n gaps = drop (length gaps - n) gaps

-- a packet of this picture came, with this number: those from the newest up to it are missing; or it
-- is missing no more
abbrev pub after_number : ℕ → ℕ → ℕ → List Gap → List Gap
after_number newest number picture gaps =
    if nat_lt newest number
    then last_gaps 64 (gaps ++ map (gap_of picture) (numbers_from (newest + 1) (number - newest - 1)))
    else filter (λ g. not (g.number == number)) gaps

abbrev pub newest_number_after : ℕ → ℕ → ℕ
newest_number_after newest number = if nat_lt newest number then number else newest

-- the pictures before this one were played
abbrev pub gaps_after_play : ℕ → List Gap → List Gap
gaps_after_play next gaps = filter (λ g. nat_le next g.picture) gaps

-- ---- after each call

abbrev pub newest_after_packet : Option ℕ → ℕ → Option ℕ
newest_after_packet None sequence = Some (65536 + sequence)
newest_after_packet (Some newest) sequence =
    Some (newest_number_after newest (counted_number newest sequence))

-- the first packet makes none
abbrev pub gaps_after_packet : Option ℕ → ℕ → ℕ → List Gap → List Gap
gaps_after_packet None sequence picture gaps = gaps
gaps_after_packet (Some newest) sequence picture gaps =
    after_number newest (counted_number newest sequence) picture gaps
