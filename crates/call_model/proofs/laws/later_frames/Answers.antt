use Rattle.call_model.proofs.LaterFrames.{later_frames, later_frames_both}
use Rattle.call_model.proofs.laws.later_frames.Goals as goal

pub returns-clause-ideal : goal.returns-clause-ideal
returns-clause-ideal g c coding rules = later_frames coding rules

pub returns-clause-both : goal.returns-clause-both
returns-clause-both g c coding rules = later_frames_both coding rules
