use Rattle.std.proofs.Common.{◌≡◌, ◌+◌, vec_len}
use Rattle.h263_region.specs.Claimed.{IsHeld}
use Rattle.payload_join.proofs.ring.HeldPackets.finish.Given as goal

-- the slots that are left are those that are out
abbrev pub invariant-loop : goal.invariant-loop
invariant-loop l = IsHeld l.region l.slots.items × (vec_len l.slots + l.counter ≡ l.end)
