-- Numbers that start anew, counted on.
use Rattle.std.specs.Prelude.{ℕ, ◌+◌, ◌-◌, ◌*◌, ◌/◌, ◌%◌, nat_lt, Option, Some, None, if◌then◌else◌}

-- The number next to base that leaves this rest: the one from half a period below it up to less
-- than half a period above it, if it isn't negative.
abbrev pub nearest_to_base : ℕ → ℕ → ℕ → Option ℕ
nearest_to_base base rest period =
    let top = base + period / 2 - 1 in
    let over = (top + period - rest) % period in
    if nat_lt top over then None else Some (top - over)

-- by how much a sequence number is ahead of another, or 0 where it is behind
abbrev pub ahead_of : ℕ → ℕ → ℕ
ahead_of before sequence =
    let ahead = (sequence + 65536 - before) % 65536 in
    if nat_lt ahead 32768 then ahead else 0

-- How many pictures are captured in so many ticks of 90 kHz, to the nearest: rate of them in second
-- seconds.
abbrev pub pictures_within : ℕ → ℕ → ℕ → ℕ
pictures_within rate second ticks = (2 * ticks * rate + 90000 * second) / (180000 * second)

-- the time of so many pictures in nanoseconds, rounded up
abbrev pub time_of : ℕ → ℕ → ℕ → ℕ
time_of rate second pictures = (pictures * second * 1000000000 + (rate - 1)) / rate

-- by how much a stream may go on in so much of the clock's time: a tenth more
abbrev pub allowed_in : ℕ → ℕ
allowed_in time = time + time / 10
