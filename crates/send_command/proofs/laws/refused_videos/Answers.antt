use Rattle.send_command.proofs.Refusing.{video_refused}
use Rattle.send_command.proofs.laws.refused_videos.Goals as goal

pub returns : goal.returns
returns c = λ setup inputs fault ends. video_refused c.frame_by_frame.ensures fault setup inputs ends
