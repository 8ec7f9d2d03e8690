-- Half a period.
use Rattle.std.proofs.Common.{◌<◌, arith}
use Rattle.h263_types.specs.declared.clock.Clock.{Clock}
use Rattle.h263_types.specs.declared.clock.Clock.TheVariants.{Standard, Custom}
use Rattle.h263_types.specs.Clocks.{half_of}

pub half_some : (clock : Clock) → 0 < half_of clock
half_some Standard = omega arith
half_some Custom = omega arith
