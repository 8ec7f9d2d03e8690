use Rattle.std.proofs.Common.{arith}
use Rattle.payload_join.proofs.Slots.{released}
use Rattle.payload_join.proofs.ring.HeldPackets.finish.Goals as goal

pub loop-preserved : goal.loop-preserved
loop-preserved c =
    let count = c.loop.invariant.1 in let fewer = c.take_last-slot.ensures.len in (
      released c.take_last-slot.result c.loop.invariant.0 c.take_last-slot.ensures.items c.release.ensures.back
          c.release.ensures.counted,
      omega arith,
    )
