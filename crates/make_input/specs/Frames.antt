-- The samples of made frames.
use Rattle.std.specs.Prelude.{ℕ, ◌+◌, ◌-◌, ◌*◌, ◌%◌}
use Rattle.h263_planes.specs.declared.Plane.{Plane}
use Rattle.h263_planes.specs.declared.Plane.TheVariants.{Y, Cb, Cr}

-- how far v modulo 128 lies from 64; one of the two differences is 0
abbrev pub triangle : ℕ → ℕ
triangle v = (64 - v % 128) + (v % 128 - 64)

-- the sample in column x of row y of a plane of frame n
abbrev pub made_sample : ℕ → ℕ → Plane → ℕ → ℕ → ℕ
made_sample seed n Y x y = 60 + triangle (x + 2 * n + seed % 128) + triangle (2 * y + 2 * n)
made_sample seed n Cb x y = 96 + triangle (x + n)
made_sample seed n Cr x y = 160 - triangle (y + n)
