use Rattle.std.proofs.Common.{◌≡◌, ◌^◌, ◌<◌, ◌≤◌}
use Rattle.std.specs.Prelude.{reverse}
use Rattle.h263_bits.specs.Bits.{spelled, number}
use Rattle.back_messages.proofs.reading.turned.Given as goal

-- the bits so far
abbrev pub invariant-places : goal.invariant-places
invariant-places l = record {
  value : l.turned ≡ number (reverse (spelled l.place l.bits));
  below : l.turned < 2 ^ l.place;
  places : l.place ≤ 7;
}
