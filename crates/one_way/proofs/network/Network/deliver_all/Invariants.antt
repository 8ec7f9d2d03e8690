use Rattle.std.proofs.Common.{◌≡◌, ◌+◌, ◌≤◌, List, ◌++◌, length}
use Rattle.h263_types.specs.declared.params.Params.{Params}
use Rattle.call_model.specs.IdealCall.{Deliver, Event}
use Rattle.call_model.specs.Receiving.{ReceiverEntry}
use Rattle.call_encoding.specs.Frames.{Frame}
use Rattle.one_way.specs.Both.{State}
use Rattle.one_way.specs.Both.{both_after, steady}
use Rattle.one_way.specs.Trace.{delivered}
use Rattle.one_way.specs.Way.{HoldsNetwork, IsAmongLast, MayHappenNow, said_in, way_of}
use Rattle.one_way.proofs.network.Network.deliver_all.Given as goal

-- the packets below `place` were delivered, and what was said of them is kept
abbrev pub invariant-packets : goal.invariant-packets
invariant-packets l = record {
  params : l.receiver.params ≡ l.fn.receiver.params;
  played : l.receiver.played ≡ l.fn.receiver.played;
  few : said_in l.self ≤ said_in l.fn.self + l.place;
  way : way_of l.self ≡ way_of l.fn.self;
  holds : (p : Params) (sender : State) (before : List ReceiverEntry) (frames : List Frame) (past : List Event)
      → HoldsNetwork p l.fn.self sender l.fn.receiver before frames past
      → IsAmongLast (way_of l.fn.self) (length (both_after p (steady p) frames before past).sender.coded) l.number
      → MayHappenNow p before frames past (Deliver l.number 0)
      → HoldsNetwork p l.self sender l.receiver before frames (delivered l.number l.place ++ past);
}
