use Rattle.call_command.proofs.EachFrame.{each_frame, status_is}
use Rattle.call_command.proofs.Starting.{in_format}
use Rattle.call_command.proofs.laws.a_call_shows_each_frame.Goals as goal

pub returns-clause-frames : goal.returns-clause-frames
returns-clause-frames c = λ p inputs f in_range head.
    each_frame p f (c.call_laws.ensures (record p { format = f }) (in_format p f in_range)) c.searches.ensures.all_below
    c.frame_by_frame.ensures inputs head

pub returns-clause-status : goal.returns-clause-status
returns-clause-status c = λ p inputs in_range.
    status_is p inputs (λ f. c.call_laws.ensures (record p { format = f }) (in_format p f in_range))
    c.searches.ensures.all_below c.frame_by_frame.ensures
