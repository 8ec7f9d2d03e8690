use Rattle.call_command.proofs.Talking.{talk_is_the_call}
use Rattle.call_command.proofs.laws.talks_agree.Goals as goal

pub returns : goal.returns
returns c = λ t in_range. talk_is_the_call t (c.later_frames.ensures t.params) (c.event_laws.ensures t.params)
    (c.near_event_laws.ensures t.params in_range) (λ frames past near. c.ends_agree.ensures t.params frames past
    in_range near)
