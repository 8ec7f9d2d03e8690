use Rattle.group_sender.proofs.Living.{group_is_followed}
use Rattle.group_sender.proofs.laws.group.Goals as goal

pub returns : goal.returns
returns g c coding rules lawful ruled = group_is_followed coding rules lawful ruled c.searches.ensures.greatest
    (c.any_sound_sender.ensures coding.decoding rules lawful.decodes ruled)
