use Rattle.call_model.proofs.Capturing.{all_sound}
use Rattle.call_model.proofs.laws.encoder_is_sound.Goals as goal

pub returns : goal.returns
returns g c coding rules lawful ruled pace frames past range = all_sound coding rules lawful ruled pace frames range
    past
