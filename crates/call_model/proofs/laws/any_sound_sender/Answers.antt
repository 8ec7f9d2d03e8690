use Rattle.call_model.proofs.AnySender.{any_sound_sender}
use Rattle.call_model.proofs.laws.any_sound_sender.Goals as goal

pub returns : goal.returns
returns g c decoding rules lawful ruled = any_sound_sender decoding rules lawful ruled
