use Rattle.call_model.proofs.FramesAlone.{sent_frames_alone}
use Rattle.call_model.proofs.laws.sent_frames.Goals as goal

pub returns : goal.returns
returns g c coding rules = sent_frames_alone coding rules
