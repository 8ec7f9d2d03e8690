-- The clocks by which pictures are numbered.
use Rattle.std.specs.Prelude.{ℕ, ◌*◌}
use Rattle.h263_types.specs.declared.clock.Clock.{Clock}
use Rattle.h263_types.specs.declared.clock.Clock.TheVariants.{Standard, Custom}

-- half of the numbers that a temporal reference has: 8 bits, or 10 with a custom picture clock (H.263, 5.1.2 and 5.1.8)
abbrev pub half_of : Clock → ℕ
half_of Standard = 128
half_of Custom = 512

abbrev pub period_of : Clock → ℕ
period_of clock = 2 * half_of clock
