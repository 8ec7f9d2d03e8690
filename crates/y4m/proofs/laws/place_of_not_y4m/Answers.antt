use Rattle.y4m.proofs.Stops.{head_place, frame_place}
use Rattle.y4m.proofs.laws.place_of_not_y4m.Goals as goal

pub returns-clause-head : goal.returns-clause-head
returns-clause-head c = head_place

pub returns-clause-frame : goal.returns-clause-frame
returns-clause-frame c = frame_place
