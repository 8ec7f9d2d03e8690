use Rattle.y4m.proofs.Cuts.{head_stays, frame_stays}
use Rattle.y4m.proofs.laws.cut_after.Goals as goal

pub returns-clause-head : goal.returns-clause-head
returns-clause-head c = head_stays

pub returns-clause-frame : goal.returns-clause-frame
returns-clause-frame c = frame_stays
