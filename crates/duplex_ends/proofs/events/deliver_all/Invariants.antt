use Rattle.std.proofs.Common.{ℕ}
use Rattle.h263_types.specs.declared.params.Params.{Params}
use Rattle.call_encoding.specs.Frames.{Frame}
use Rattle.call_model.specs.IdealCall.{Deliver}
use Rattle.duplex_call.specs.declared.line.Party.{Party}
use Rattle.duplex_call.specs.Duplex.{MayHappenOf, WayRuns}
use Rattle.duplex_ends.specs.Keeping.{KeepsInDelivery}
use Rattle.duplex_ends.specs.Pair.{AreInCall, HoldsPair}
use Rattle.duplex_ends.specs.Ways.{sides, with_places}
use Rattle.duplex_ends.proofs.events.deliver_all.Given as goal

-- the packets below `place` were delivered
abbrev pub invariant-packets : goal.invariant-packets
invariant-packets l = record {
  ready : AreInCall l.own l.far;
  keeps : KeepsInDelivery l.fn.own l.fn.far l.own l.far;
  holds : (p : Party → Params) (x : Party) (ways : WayRuns Frame) (left : ℕ) → HoldsPair p x l.fn.own l.fn.far ways
      → MayHappenOf (sides p) left x (Deliver l.number 0) ways
      → HoldsPair p x l.own l.far (with_places p x l.number l.place ways);
}
