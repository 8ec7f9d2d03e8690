-- What an end counts: each count as a function of the one before and of what was answered.
use Rattle.std.specs.Prelude.{ℕ, ◌+◌, ◌-◌, ◌^◌, ◌==◌, nat_lt, min, List, [], ◌∷◌, length, slice_index, slice_set, if◌then◌else◌}
use Rattle.h263rps_c.specs.declared.answers.Answer.{Answer}
use Rattle.h263rps_c.specs.declared.answers.Made.{Made}
use Rattle.h263rps_c.specs.declared.answers.Reply.{Reply}
use Rattle.h263rps_c.specs.declared.counting.Statistics.{Statistics}

-- a count stays at the end of its range
abbrev pub plus : ℕ → ℕ → ℕ
plus count more = min (count + more) (2 ^ 64 - 1)

-- one more at a place
abbrev pub tally : List ℕ → ℕ → List ℕ
tally places place =
    if nat_lt place (length places) then slice_set places place (plus (slice_index places place) 1)
    else places

-- nothing yet
abbrev pub no_statistics : Statistics
no_statistics =
    record {
      packets = 0;
      bytes = 0;
      heard = 0 ∷ 0 ∷ 0 ∷ 0 ∷ 0 ∷ 0 ∷ [];
      faults = 0 ∷ 0 ∷ 0 ∷ 0 ∷ 0 ∷ [];
      played = 0 ∷ 0 ∷ 0 ∷ [];
      coded = 0 ∷ 0 ∷ 0 ∷ 0 ∷ 0 ∷ 0 ∷ [];
      noted = 0 ∷ 0 ∷ 0 ∷ [];
    }

-- why a packet is refused: all faults of its bytes are one
abbrev pub fault_group : ℕ → ℕ
fault_group fault = if nat_lt fault 5 then fault else 0

-- how far back a reference is: 1, 2, 3, 4 to 7, 8 or more
abbrev pub distance_group : ℕ → ℕ
distance_group distance =
    if nat_lt distance 4 then distance
    else if nat_lt distance 8 then 4
    else 5

-- the same of a picture, 0 where it is intra
abbrev pub reference_group : Made → ℕ
reference_group made = if made.intra == 1 then 0 else distance_group (made.number - made.reference)

-- with a packet of so many bytes
abbrev pub statistics_with_packet : ℕ → Statistics → Statistics
statistics_with_packet length s = record s { packets = plus s.packets 1; bytes = plus s.bytes length }

-- with the answer to it
abbrev pub statistics_with_heard : ℕ → Answer → Statistics → Statistics
statistics_with_heard length answer s =
    record s {
      packets = plus s.packets 1;
      bytes = plus s.bytes length;
      heard = tally s.heard answer.kind;
      faults = if answer.kind == 5 then tally s.faults (fault_group answer.fault) else s.faults;
    }

-- with a play
abbrev pub statistics_with_played : Answer → Statistics → Statistics
statistics_with_played answer s = record s { played = tally s.played answer.kind }

-- with a picture that was coded
abbrev pub with_made : Made → Statistics → Statistics
with_made made s = record s { coded = tally s.coded (reference_group made) }

-- with a message
abbrev pub statistics_with_reply : Reply → Statistics → Statistics
statistics_with_reply reply s = record s { noted = tally s.noted reply.kind }
