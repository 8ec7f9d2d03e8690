use Rattle.y4m.proofs.Written.{video_written}
use Rattle.y4m.proofs.laws.written_is_a_video.Goals as goal

pub returns : goal.returns
returns c = λ f shown all count. video_written f c.planes_are_bytes.ensures.size shown all count
