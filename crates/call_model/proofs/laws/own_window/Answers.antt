use Rattle.call_model.proofs.OwnWindow.{smaller_lead, wide_by_difference, any_is_followed, steered_is_sound_to_own, steered_is_followed_by_own, encoder_is_followed_by_own}
use Rattle.call_model.proofs.laws.own_window.Goals as goal

pub returns-clause-lead : goal.returns-clause-lead
returns-clause-lead g c rules ruled = smaller_lead rules ruled

pub returns-clause-difference : goal.returns-clause-difference
returns-clause-difference g c rules = wide_by_difference rules

pub returns-clause-any : goal.returns-clause-any
returns-clause-any g c decoding rules slots lead lawful ruled wide =
    any_is_followed rules slots lead decoding wide lawful ruled

pub returns-clause-sound : goal.returns-clause-sound
returns-clause-sound g c coding rules slots lead lawful ruled wide =
    steered_is_sound_to_own coding rules slots lead lawful ruled wide

pub returns-clause-follows : goal.returns-clause-follows
returns-clause-follows g c coding rules slots lead lawful ruled wide =
    steered_is_followed_by_own coding rules slots lead lawful ruled wide

pub returns-clause-encoder : goal.returns-clause-encoder
returns-clause-encoder g c coding rules slots lead lawful ruled wide =
    encoder_is_followed_by_own coding rules slots lead lawful ruled wide
