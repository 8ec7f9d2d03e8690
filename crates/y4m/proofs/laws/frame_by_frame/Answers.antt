use Rattle.y4m.proofs.ByFrames.{followed, frames_stop, fault_stop, frames-nil, fault-nil, frames_lost}
use Rattle.y4m.proofs.laws.frame_by_frame.Goals as goal

pub returns : goal.returns
returns c = record {
  next = followed;
  ends = λ f n at. (frames-nil f n at, fault-nil f n at);
  stops = λ f n at rest fault some is. (frames_stop f n at rest fault is, fault_stop f n at rest fault some is);
  lost = frames_lost;
}
