use Rattle.group_command.proofs.FaultOfVideo.{video_refused}
use Rattle.group_command.proofs.laws.refused_videos.Goals as goal

pub returns : goal.returns
returns c = λ t inputs fault ends. video_refused c.frame_by_frame.ensures fault t inputs ends
