use Rattle.duplex_command.proofs.FaultOfVideos.{first_refused, second_refused}
use Rattle.duplex_command.proofs.laws.refused_videos.Goals as goal

pub returns-clause-first : goal.returns-clause-first
returns-clause-first c = λ p inputs fault ends. first_refused c.frame_by_frame.ensures fault p inputs ends

pub returns-clause-second : goal.returns-clause-second
returns-clause-second c = λ p inputs fault ends. second_refused c.frame_by_frame.ensures fault p inputs ends
