use Rattle.call_model.proofs.AnySender.{any_sound_sender}
use Rattle.call_model.proofs.Says.{says_as_the_call}
use Rattle.call_model.proofs.laws.says.Goals as goal

pub returns : goal.returns
returns g c decoding rules lawful ruled = says_as_the_call decoding rules (any_sound_sender decoding rules lawful ruled)
