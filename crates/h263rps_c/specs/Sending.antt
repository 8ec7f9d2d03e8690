-- A sender with what its quantisers follow.
use Rattle.std.specs.Prelude.{ℕ, List, Bool}
use Rattle.h263_types.specs.declared.params.Params.{Params}
use Rattle.h263_planes.specs.Layout.{picture_of}
use Rattle.back_messages.specs.declared.message.Message.{Message}
use Rattle.call_encoding.specs.Frames.{Frame}
use Rattle.sender_end.specs.State.{SenderState}
use Rattle.rate_control.specs.declared.send_pace.SendPace.{SendPace}
use Rattle.fitted_sender.specs.declared.aim.Aim.{Aim}

-- the sender, its aim, and whether a target is fitted
pub record AimedSender : Type 0 where
  pub sender : SenderState SendPace
  pub aim : Aim
  pub fits : Bool

-- the frame of these bytes, with these messages in its header
abbrev pub frame_given : Params → List ℕ → List Message → Frame
frame_given p bytes messages = record { picture = picture_of p.format bytes; messages = messages }
