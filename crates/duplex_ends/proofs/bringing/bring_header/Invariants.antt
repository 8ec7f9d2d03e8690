use Rattle.std.proofs.Common.{◌≡◌, ℕ, List, [], drop}
use Rattle.h263_types.specs.declared.params.Params.{Params}
use Rattle.call_model.specs.IdealCall.{Event}
use Rattle.call_encoding.specs.Frames.{Frame}
use Rattle.receiver_end.specs.declared.kept.Kept.{Kept}
use Rattle.one_way.specs.declared.way.Way.{Way}
use Rattle.one_way.specs.Both.{both_after, steady}
use Rattle.one_way.specs.Way.{CanSend, HoldsWay}
use Rattle.duplex_call.specs.Duplex.{brought}
use Rattle.duplex_ends.specs.Bringing.{AreOfClock, IsReturning, MayReturnAll, carried_in}
use Rattle.duplex_ends.proofs.bringing.bring_header.Given as goal

-- the messages that are left
abbrev pub invariant-header : goal.invariant-header
invariant-header l = record {
  fits : AreOfClock l.clock (carried_in (drop l.place-index l.header));
  params : l.sender.params ≡ l.initial.sender.params;
  sent : l.sender.sent ≡ l.initial.sender.sent;
  pace : l.sender.pace ≡ l.initial.sender.pace;
  ready : (way : Way) → CanSend way l.initial.sender → CanSend way l.sender;
  holds : (p : Params) (way : Way) (receiver : Kept) (frames : List Frame) (past : List Event) (ks : List ℕ)
      → l.initial.sender.pace.quant ≡ p.quant → HoldsWay p way l.initial.sender receiver [] frames past
      → MayReturnAll p (both_after p (steady p) frames [] past) ks (carried_in l.header)
      → IsReturning p way l.sender receiver frames (brought ks past) (carried_in (drop l.place-index l.header));
}
