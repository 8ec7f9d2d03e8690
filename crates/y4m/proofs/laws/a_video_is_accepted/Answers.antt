use Rattle.y4m.proofs.Videos.{video_found, format_found, planes_found}
use Rattle.y4m.proofs.laws.a_video_is_accepted.Goals as goal

pub returns-clause-fault : goal.returns-clause-fault
returns-clause-fault c = video_found

pub returns-clause-format : goal.returns-clause-format
returns-clause-format c = format_found

pub returns-clause-frames : goal.returns-clause-frames
returns-clause-frames c = planes_found
