use Rattle.std.proofs.Common.{◌≡◌, ◌+◌, ◌≤◌, length}
use Rattle.h263_types.specs.declared.params.Params.{Params}
use Rattle.group_sender.specs.Holding.{Groups}
use Rattle.group_call.specs.Holding.{HoldsBroadcast, HoldsViewer, IsCast, told_count}
use Rattle.group_call.specs.Viewing.{ViewerRun, coded_packets, view_places}
use Rattle.group_call.proofs.viewer.Viewer.deliver_all.Given as goal

-- the packets below `place` have reached it, and what was said of them is kept
abbrev pub invariant-packets : goal.invariant-packets
invariant-packets l = record {
  params : l.self.receiver.params ≡ l.fn.self.receiver.params;
  played : l.self.receiver.played ≡ l.fn.self.receiver.played;
  few : told_count l.self ≤ told_count l.fn.self + l.place;
  tally : l.self.tally ≡ l.fn.self.tally;
  holds : (p : Params) (run : Groups) (view : ViewerRun) → HoldsBroadcast p l.cast run
      → IsCast l.cast (length run.coded) l.number → HoldsViewer p l.fn.self view
      → HoldsViewer p l.self (view_places p (coded_packets p run.coded l.number) l.number l.place view);
}
