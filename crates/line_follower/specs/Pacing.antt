-- The sizes of pictures, in bytes.
use Rattle.std.specs.Prelude.{ℕ, ◌+◌, ◌-◌, ◌*◌, ◌/◌, min, max, nat_lt, if◌then◌else◌}
use Rattle.line_follower.specs.Bucket.{no_sizes, sizes_with}
use Rattle.line_follower.specs.declared.pace.Bounds.{Bounds}
use Rattle.line_follower.specs.declared.pace.Pace.{Pace}

-- so many bytes a picture as bytes a second, below 2^32
abbrev pub rate_per_second : ℕ → ℕ → ℕ
rate_per_second bytes period = min (bytes * 1000000000 / period) 4294967295

abbrev pub size_at : ℕ → ℕ → ℕ
size_at rate period = rate * period / 1000000000

-- the heads of IP and UDP
abbrev pub heads_of : ℕ → ℕ
heads_of packets = 28 * packets

-- eight times the mean of late
abbrev pub heads_after : ℕ → ℕ → ℕ
heads_after heads packets = min (heads - heads / 8 + heads_of packets) 4294967295

abbrev pub first_pace : Bounds → Pace
first_pace b = record { bounds = b; quant = 256 * b.finest; heads = 0; sizes = no_sizes }

-- What the next picture may have: its share of the rate, less the heads, less an eighth of what was
-- sent beyond the rate.
abbrev pub wanted_of : ℕ → ℕ → Pace → ℕ
wanted_of rate owed p =
    max (min (size_at rate p.bounds.period - p.heads / 8 - owed / 8) p.bounds.most) p.bounds.least

-- The quantiser that has so many bytes where this one has others: it goes about by the root of what
-- they are of each other. The quotient is no more than two hundredths off that, up to twice or half,
-- and a fourteenth up to four times.
abbrev pub quant_by : ℕ → ℕ → ℕ → ℕ → ℕ
quant_by quant s w finest = max (min (quant * (3 * s + w) / (s + 3 * w)) 7936) (256 * finest)

-- How far a size is off what was wanted counts up to twice, or half.
abbrev pub quant_by_size : ℕ → ℕ → ℕ → ℕ → ℕ
quant_by_size quant bytes wanted finest =
    let w = max wanted 1 in
    quant_by quant (min (max bytes (w / 2)) (2 * w)) w finest

-- after a fall of the rate, which counts up to a quarter
abbrev pub quant_by_rate : ℕ → ℕ → ℕ → ℕ → ℕ
quant_by_rate quant before rate finest =
    let w = max rate 1 in
    quant_by quant (min before (4 * w)) w finest

abbrev pub pace_after : ℕ → ℕ → ℕ → Pace → Pace
pace_after bytes packets wanted p =
    record {
      bounds = p.bounds;
      quant = quant_by_size p.quant bytes wanted p.bounds.finest;
      heads = heads_after p.heads packets;
      sizes = sizes_with bytes p.sizes;
    }

-- The rate was that before, and is this one: where it falls the next picture is smaller at once.
abbrev pub pace_at : ℕ → ℕ → Pace → Pace
pace_at before rate p =
    if nat_lt rate before
    then record p { quant = quant_by_rate p.quant before rate p.bounds.finest }
    else p

abbrev pub nearest_quant : Pace → ℕ
nearest_quant p = (p.quant + 128) / 256
