use Rattle.call_model.proofs.Steered.{steered_is_sound, steered_is_followed}
use Rattle.call_model.proofs.laws.steered_sender.Goals as goal

pub returns-clause-sound : goal.returns-clause-sound
returns-clause-sound g c coding rules lawful ruled = steered_is_sound coding rules lawful ruled

pub returns-clause-follows : goal.returns-clause-follows
returns-clause-follows g c coding rules lawful ruled = steered_is_followed coding rules lawful ruled
