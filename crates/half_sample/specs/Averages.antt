-- The rounded averages of half sample prediction (H.263, 6.1.2). r is the rounding bit.
use Rattle.std.specs.Prelude.{ℕ, ◌+◌, ◌-◌, ◌*◌, ◌/◌, ◌%◌}

-- of two samples
abbrev pub average : ℕ → ℕ → ℕ → ℕ
average r a b = (a + b + 1 - r) / 2

-- of four samples
abbrev pub average4 : ℕ → ℕ → ℕ → ℕ → ℕ → ℕ
average4 r a b c d = (a + b + c + d + 2 - r) / 4

-- By how much the average of two averages is too high for one of four. Each average of an odd sum was
-- rounded up: in the first step (u, l: the sums above and below) that adds a quarter of a sample, in
-- the second (t) two quarters. To be added are two quarters at most, or one with the rounding bit.
abbrev pub excess_of : ℕ → ℕ → ℕ → ℕ → ℕ
excess_of r u l t = (u % 2 + l % 2 + 2 * (t % 2) + 1 + r) / 4
