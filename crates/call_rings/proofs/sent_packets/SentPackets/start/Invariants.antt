use Rattle.std.proofs.Common.{◌≡◌, length}
use Rattle.std.specs.Prelude.{All}
use Rattle.call_rings.specs.Kept.{TakesUpTo}
use Rattle.call_rings.proofs.sent_packets.SentPackets.start.Given as goal

abbrev pub invariant-places : goal.invariant-places
invariant-places l = (l.kept.capacity ≡ l.fn.pictures) × (length l.kept.items ≡ l.counter)
    × All (TakesUpTo l.fn.room l.fn.most) l.kept.items
