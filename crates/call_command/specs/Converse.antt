-- What a machine keeps in mind whose ends are lent to it, and what it makes of a call.
use Rattle.std.specs.Prelude.{◌≡◌, ℕ, Bool, List, []}
use Rattle.h263_outside.specs.declared.desk.Role.{Role}
use Rattle.call_model.specs.Receiving.{ReceiverEntry}
use Rattle.desk_program.specs.Run.{Run, machine_run, end_state}
use Rattle.sender_end.specs.Stands as sender_end
use Rattle.receiver_end.specs.State as receiver_end
use Rattle.call_command.specs.declared.begun.Begun.{Begun}
use Rattle.call_command.specs.declared.world.World.{World}
use Rattle.call_command.specs.declared.terms.Terms.{Terms}
use Rattle.one_way.specs.Both.{steady}
use Rattle.call_report.specs.declared.status.Status.{Status}
use Rattle.call_command.specs.Turning.{IsAnswer, names_of}
use Rattle.call_command.specs.Call.{CallState, call_at_start, most_turns, talk_step}
use Rattle.call_command.specs.Standing.{CallOpens, PartsReady, PartsStand, call_parts}

abbrev pub WorldStands : World → CallState → (Role → List ℕ) → Type 0
WorldStands m s inputs = PartsStand (call_parts m) s inputs

abbrev pub WorldReady : World → (Role → Bool) → Type 0
WorldReady m attached = PartsReady (call_parts m) attached

-- the same is lent, and the pace of the sender and what was asked for are the same
pub record WorldStays (first now : World) : Type 0 where
  pub names : names_of now ≡ names_of first

abbrev pub WorldAnswers : World → Status → Type 0
WorldAnswers first status = IsAnswer first.terms.plain status

-- the state before the first event
abbrev pub IsCallStart : Terms → ℕ → CallState → (Role → List ℕ) → Type 0
IsCallStart t at s rest = s ≡ call_at_start t [] at

-- what was begun may converse: nothing was sent, heard or played yet, and no frame was read
pub record MayConverse (attached : Role → Bool) (begun : Begun) : Type 0 where
  pub opens : CallOpens begun.terms attached
  pub format : begun.video.format ≡ begun.terms.params.format
  pub frames : begun.video.more ≡ 1048576
  pub sender_params : begun.both.sender.params ≡ begun.terms.params
  pub receiver_params : begun.both.receiver.params ≡ begun.terms.params
  pub quant : begun.both.sender.pace.quant ≡ begun.terms.params.quant
  pub sent : begun.both.sender.sent ≡ 0
  pub sends : sender_end.PacedStands (steady begun.terms.params) begun.both.sender []
  pub played : begun.both.receiver.played ≡ 0
  pub receives : receiver_end.Stands begun.both.receiver []

-- the call of these terms, by both ends, where the receiver had heard these entries before and the
-- video's first frame is at this byte
abbrev pub talk_of : Terms → List ReceiverEntry → ℕ → (Role → List ℕ) → Run
talk_of t before at inputs = machine_run talk_step (most_turns t.plain) (call_at_start t before at) inputs

-- the state in which it ends: what was accepted
abbrev pub talk_end : Terms → List ReceiverEntry → ℕ → (Role → List ℕ) → CallState
talk_end t before at inputs = end_state talk_step (most_turns t.plain) (call_at_start t before at) inputs
