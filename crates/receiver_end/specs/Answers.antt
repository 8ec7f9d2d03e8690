-- What a receiver answers and says.
use Rattle.std.specs.Prelude.{◌≡◌, Bool, true, false, Option, Some, None, Ok}
use Rattle.h263_bits.specs.declared.fault.Fault.{Fault}
use Rattle.h263_types.specs.declared.Mark.{Mark}
use Rattle.h263_types.specs.declared.Mark.TheVariants as marks
use Rattle.h263_types.specs.declared.clock.Clock.{Clock}
use Rattle.back_messages.specs.declared.message.Message.{Message}
use Rattle.back_messages.specs.declared.writing.Said.{Said}
use Rattle.back_messages.specs.Said.{text_of_said, IsFilled}
use Rattle.back_messages.specs.Text.{message_in}
use Rattle.reference_selector.specs.Messages.{message_of}
use Rattle.call_model.specs.Coding as call
use Rattle.call_model.specs.Receiving as runs
use Rattle.receiver_end.specs.declared.answers.Heard.{Heard}
use Rattle.receiver_end.specs.declared.answers.Heard.TheVariants as heards
use Rattle.receiver_end.specs.declared.answers.PacketFault.TheVariants as faults
use Rattle.receiver_end.specs.declared.answers.Played.{Played}

-- the bytes of a message as it travels, which a sender by this clock reads
pub record IsSaid (clock : Clock) (said : Said) (message : call.Message) : Type 0 where
  pub written : Message
  pub read : message_in clock (text_of_said said) ≡ Ok written
  pub means : message_of written ≡ message
  pub filled : IsFilled said

-- the answer is the one that the run gives
abbrev pub IsHeard : Clock → Heard → runs.Heard Fault → Type 0
IsHeard clock h (runs.Refused fault) = h ≡ heards.Refused (faults.Bytes fault)
IsHeard clock h runs.OtherClock = h ≡ heards.Refused faults.OtherClock
IsHeard clock h runs.Late = h ≡ heards.Late
IsHeard clock h runs.Early = h ≡ heards.Early
IsHeard clock h runs.HeaderDiffers = h ≡ heards.Refused faults.HeaderDiffers
IsHeard clock h runs.MissingReference = h ≡ heards.Refused faults.MissingReference
IsHeard clock h runs.Repeat = h ≡ heards.Repeat
IsHeard clock h runs.Overlap = h ≡ heards.Refused faults.Overlap
IsHeard clock h (runs.Completed message) =
    (said : Said) × (h ≡ heards.Completed said) × IsSaid clock said message
IsHeard clock h runs.Taken = h ≡ heards.Taken

-- the message of an answer: a packet that completes its picture acknowledges it
abbrev pub said_by : runs.Heard Fault → Option call.Message
said_by (runs.Completed message) = Some message
said_by _ = None

-- the same, in bytes
abbrev pub said_in_answer : Heard → Option Said
said_in_answer (heards.Completed said) = Some said
said_in_answer _ = None

-- the answer takes the packet: each other one leaves the receiver exactly as it was
abbrev pub takes : Heard → Bool
takes heards.Taken = true
takes (heards.Completed said) = true
takes _ = false

abbrev pub mark_from : call.Mark → Mark
mark_from call.Exact = marks.Exact
mark_from call.Patched = marks.Patched
mark_from call.Held = marks.Held

abbrev pub SaysMessage : Clock → Option Said → Option call.Message → Type 0
SaysMessage clock o None = o ≡ None
SaysMessage clock o (Some message) = (said : Said) × (o ≡ Some said) × IsSaid clock said message

-- a play has this mark and says this message
pub record IsPlayed (clock : Clock) (played : Played) (mark : call.Mark) (message : Option call.Message) : Type 0 where
  pub mark_is : played.mark ≡ mark_from mark
  pub message_is : SaysMessage clock played.message message
