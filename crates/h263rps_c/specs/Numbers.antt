-- The numbers of the header: each answer as C has it.
use Rattle.std.specs.Prelude.{◌≡◌, ℕ, [], ◌∷◌, Option, Some, None}
use Rattle.h263_bits.specs.declared.fault.FaultKind.{FaultKind}
use Rattle.h263_bits.specs.declared.fault.FaultKind.TheVariants as kinds
use Rattle.h263_types.specs.declared.Mark.{Mark}
use Rattle.h263_types.specs.declared.Mark.TheVariants as marks
use Rattle.back_messages.specs.declared.message.MessageFault.{MessageFault}
use Rattle.back_messages.specs.declared.message.MessageFault.TheVariants as messages
use Rattle.back_messages.specs.declared.writing.Said.{Said}
use Rattle.receiver_end.specs.declared.answers.Arrival.{Arrival}
use Rattle.receiver_end.specs.declared.answers.Heard.{Heard}
use Rattle.receiver_end.specs.declared.answers.Heard.TheVariants as heards
use Rattle.receiver_end.specs.declared.answers.PacketFault.{PacketFault}
use Rattle.receiver_end.specs.declared.answers.PacketFault.TheVariants as faults
use Rattle.receiver_end.specs.declared.answers.Played.{Played}
use Rattle.sender_end.specs.declared.answers.Coded.{Coded}
use Rattle.sender_end.specs.declared.answers.Feedback.{Feedback}
use Rattle.sender_end.specs.declared.answers.Feedback.TheVariants as feedbacks
use Rattle.h263rps_c.specs.declared.answers.Answer.{Answer}
use Rattle.h263rps_c.specs.declared.answers.Made.{Made}
use Rattle.h263rps_c.specs.declared.answers.Reply.{Reply}
use Rattle.h263rps_c.specs.declared.answers.CMessage.{CMessage}

-- 10,000 times the major number of the version, and 100 times the minor one
abbrev pub library_version : ℕ
library_version = 20300

-- ---- what is wrong with a packet

-- with its bytes
abbrev pub kind_number : FaultKind → ℕ
kind_number kinds.Ended = 100
kind_number kinds.BadCode = 101
kind_number kinds.BadDc = 102
kind_number kinds.BadLevel = 103
kind_number kinds.PastEnd = 104
kind_number kinds.FourVectors = 105
kind_number kinds.BadVector = 106
kind_number kinds.Marker = 107
kind_number kinds.Address = 108
kind_number kinds.Quant = 109
kind_number kinds.SliceReference = 110
kind_number kinds.Bci = 111
kind_number kinds.Empty = 112
kind_number kinds.Trailing = 113
kind_number kinds.NoStart = 114
kind_number kinds.PictureType = 115
kind_number kinds.Ufep = 116
kind_number kinds.SourceFormat = 117
kind_number kinds.OtherFormat = 118
kind_number kinds.Modes = 119
kind_number kinds.PictureKind = 120
kind_number kinds.Resampling = 121
kind_number kinds.Cpm = 122
kind_number kinds.Divisor = 123
kind_number kinds.SliceMode = 124
kind_number kinds.Rpsmf = 125
kind_number kinds.IntraReference = 126
kind_number kinds.NoReference = 127
kind_number kinds.HighBits = 128
kind_number kinds.Messages = 129
kind_number kinds.ManyMessages = 130
kind_number kinds.FollowOn = 131
kind_number kinds.ExtraHeader = 132
kind_number kinds.NoExtraHeader = 133
kind_number kinds.Long = 134
kind_number kinds.Short = 135
kind_number kinds.Version = 136
kind_number kinds.Padding = 137
kind_number kinds.PayloadType = 138
kind_number kinds.Source = 139

abbrev pub fault_number : PacketFault → ℕ
fault_number faults.OtherClock = 1
fault_number faults.HeaderDiffers = 2
fault_number faults.MissingReference = 3
fault_number faults.Overlap = 4
fault_number (faults.Bytes fault) = kind_number fault.kind

-- the bit at which the bytes have their fault; other faults have no place, and 0
abbrev pub fault_place : PacketFault → ℕ
fault_place (faults.Bytes fault) = fault.at
fault_place _ = 0

-- ---- a receiver's answers

abbrev pub no_message : CMessage
no_message = record { bytes = 0 ∷ 0 ∷ 0 ∷ 0 ∷ 0 ∷ []; length = 0 }

abbrev pub c_message_of : Said → CMessage
c_message_of said = record { bytes = said.bytes; length = said.len }

abbrev pub message_or_none : Option Said → CMessage
message_or_none None = no_message
message_or_none (Some said) = c_message_of said

abbrev pub plain : ℕ → Answer
plain kind =
    record {
      kind = kind;
      fault = 0;
      at = 0;
      number = 0;
      predicted = 0;
      reference = 0;
      message = no_message;
    }

abbrev pub saying : ℕ → Said → Answer
saying kind said =
    record {
      kind = kind;
      fault = 0;
      at = 0;
      number = 0;
      predicted = 0;
      reference = 0;
      message = c_message_of said;
    }

abbrev pub refusing : PacketFault → Answer
refusing fault =
    record {
      kind = 5;
      fault = fault_number fault;
      at = fault_place fault;
      number = 0;
      predicted = 0;
      reference = 0;
      message = no_message;
    }

-- to a packet, but for the number of its picture
abbrev pub heard_answer : Heard → Answer
heard_answer heards.Taken = plain 0
heard_answer (heards.Completed said) = saying 1 said
heard_answer heards.Late = plain 2
heard_answer heards.Early = plain 3
heard_answer heards.Repeat = plain 4
heard_answer (heards.Refused fault) = refusing fault

-- a picture's number, or 0 where there is none
abbrev pub number_or_zero : Option ℕ → ℕ
number_or_zero None = 0
number_or_zero (Some n) = n

-- to a packet: with the number of its picture
abbrev pub arrived_answer : Arrival → Answer
arrived_answer x = record (heard_answer x.heard) { number = number_or_zero x.number }

abbrev pub mark_number : Mark → ℕ
mark_number marks.Exact = 0
mark_number marks.Patched = 1
mark_number marks.Held = 2

-- whether there is a reference, as a number
abbrev pub is_predicted : Option ℕ → ℕ
is_predicted None = 0
is_predicted (Some m) = 1

-- the answer names this reference, if there is one
abbrev pub NamesReference : Answer → Option ℕ → Type 0
NamesReference answer o =
    (answer.predicted ≡ is_predicted o) × (answer.reference ≡ number_or_zero o)

-- to a play: with the number of the picture that is shown, and that of its reference
abbrev pub played_answer : Played → Answer
played_answer played =
    record {
      kind = mark_number played.mark;
      fault = 0;
      at = 0;
      number = played.number;
      predicted = is_predicted played.reference;
      reference = number_or_zero played.reference;
      message = message_or_none played.message;
    }

-- ---- a sender's answers

abbrev pub made_with : Coded → Option ℕ → Made
made_with x None =
    record { number = x.number; packets = x.packets; intra = 1; reference = 0 }
made_with x (Some m) =
    record { number = x.number; packets = x.packets; intra = 0; reference = m }

-- to a picture
abbrev pub made_of : Coded → Made
made_of x = made_with x x.reference

abbrev pub message_fault_number : MessageFault → ℕ
message_fault_number messages.Length = 1
message_fault_number messages.Kind = 2
message_fault_number messages.High = 3
message_fault_number messages.Marker = 4
message_fault_number messages.Pair = 5

-- to a message
abbrev pub reply_numbers : Feedback → Reply
reply_numbers feedbacks.Noted = record { kind = 0; fault = 0 }
reply_numbers feedbacks.Old = record { kind = 1; fault = 0 }
reply_numbers (feedbacks.Refused fault) = record { kind = 2; fault = message_fault_number fault }
