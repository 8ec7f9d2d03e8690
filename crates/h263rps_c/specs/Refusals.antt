-- The numbers of refusals, and where an end refuses.
use Rattle.std.specs.Prelude.{ℕ, ◌==◌, nat_le, nat_lt, List, [], length, slice_index_or, Option, Some, None, Result, Ok, Err, if◌then◌else◌}
use Rattle.h263_types.specs.Sizes.{size_of_picture}
use Rattle.sender_end.specs.State.{SenderState}
use Rattle.receiver_end.specs.declared.kept.Kept.{Kept}
use Rattle.back_messages.specs.declared.message.Message.{Message}
use Rattle.h263rps_c.specs.declared.answers.CMessage.{CMessage}
use Rattle.rate_control.specs.declared.send_pace.SendPace.{SendPace}
use Rattle.h263rps_c.specs.declared.refusals.EndRefusal.{EndRefusal}
use Rattle.h263rps_c.specs.declared.refusals.EndRefusal.TheVariants.{NotStarted, Started, OtherEnd, BadParams, NoMemory, Ended, WrongLength, BadMessages, NoPacket, ShortRoom, NoStart, NoStream, NoReceiver}
use Rattle.h263rps_c.specs.Messages.{messages_of}

abbrev pub refusal_number : EndRefusal → ℕ
refusal_number NotStarted = 1
refusal_number Started = 2
refusal_number OtherEnd = 3
refusal_number BadParams = 4
refusal_number NoMemory = 5
refusal_number Ended = 6
refusal_number WrongLength = 7
refusal_number BadMessages = 8
refusal_number NoPacket = 9
refusal_number ShortRoom = 10
refusal_number NoStart = 13
refusal_number NoStream = 14
refusal_number NoReceiver = 15

-- what a call answers: 0, or the number of its refusal
abbrev pub status_of : Option EndRefusal → ℕ
status_of None = 0
status_of (Some refusal) = refusal_number refusal

abbrev pub end_refusal : {T : Type 0} → Result T EndRefusal → Option EndRefusal
end_refusal (Ok value) = None
end_refusal (Err refusal) = Some refusal

-- ---- where an end refuses

-- a play
abbrev pub next_refusal : Kept → Option EndRefusal
next_refusal r = if nat_le 1048576 r.played then Some Ended else None

-- a play into room for `count` bytes
abbrev pub play_refusal : ℕ → Kept → Option EndRefusal
play_refusal count r =
    if nat_le 1048576 r.played then Some Ended
    else if count == size_of_picture r.params.format then None
    else Some WrongLength

abbrev pub unless_none : Option (List Message) → Option EndRefusal
unless_none None = Some BadMessages
unless_none (Some messages) = None

-- a picture of these bytes, with these messages
abbrev pub capture_refusal : List ℕ → List CMessage → SenderState SendPace → Option EndRefusal
capture_refusal bytes back s =
    if nat_le 1048576 s.sent then Some Ended
    else if length bytes == size_of_picture s.params.format then
    (if nat_lt 4 (length back) then Some BadMessages
    else unless_none (messages_of s.params.clock back))
    else Some WrongLength

-- a call that begins anew at the picture of this number
abbrev pub reset_refusal : ℕ → Kept → Option EndRefusal
reset_refusal number r = if nat_lt 1048576 number then Some BadParams else None

-- a target in bytes per picture
abbrev pub target_refusal : ℕ → SenderState SendPace → Option EndRefusal
target_refusal target s = if nat_lt 999999 target then Some BadParams else None

-- a quantiser
abbrev pub quant_refusal : ℕ → SenderState SendPace → Option EndRefusal
quant_refusal quant s = if quant == 0 then Some BadParams else if nat_lt 31 quant then Some BadParams else None

-- packet i into room for `count` bytes
abbrev pub packet_refusal : ℕ → ℕ → SenderState SendPace → Option EndRefusal
packet_refusal i count s =
    if nat_le (length s.packets) i then Some NoPacket
    else if nat_lt count (length (slice_index_or s.packets i [])) then Some ShortRoom
    else None
