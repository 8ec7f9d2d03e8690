-- A sender before its first picture has no packets.
use Rattle.std.proofs.Common.{◌≡◌, ℕ, List, [], sym, ◌∙◌}
use Rattle.call_model.specs.Sending.{packets_at}
use Rattle.sender_end.specs.Stands as senders
use Rattle.sender_end.specs.State.{SenderState}
use Rattle.rate_control.specs.declared.send_pace.SendPace.{SendPace}

pub no_packets : (pace : List ℕ → ℕ) (s : SenderState SendPace) → senders.PacedStands pace s [] → s.packets ≡ []
unfolding packets_at
no_packets pace s it = sym it.seen.packets ∙ it.stands.packets
