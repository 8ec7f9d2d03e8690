use Rattle.group_sender.proofs.Living.{group_is_heard}
use Rattle.group_sender.proofs.laws.each_is_heard.Goals as goal

pub returns : goal.returns
returns g c coding rules lawful ruled = group_is_heard coding rules lawful ruled c.searches.ensures.greatest
    (c.any_sound_sender.ensures coding.decoding rules lawful.decodes ruled)
    (c.says.ensures coding.decoding rules lawful.decodes ruled)
