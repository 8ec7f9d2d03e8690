-- Back-channel messages of a call, and their bytes.
use Rattle.std.specs.Prelude.{ℕ, zero, suc, ◌/◌, Bool, List, [], ◌∷◌, reverse, take, drop, Option, Some, None, Result, Ok, Err}
use Rattle.h263_types.specs.declared.clock.Clock.{Clock}
use Rattle.h263_bits.specs.Bits.{number}
use Rattle.back_messages.specs.declared.message.Message.{Message}
use Rattle.back_messages.specs.declared.message.Message.TheVariants.{Ack, Nack}
use Rattle.back_messages.specs.declared.message.MessageFault.{MessageFault}
use Rattle.back_messages.specs.Text.{message_bits, message_in, message_text}
use Rattle.reference_selector.specs.Messages.{message_of}
use Rattle.call_model.specs.Coding as call
use Rattle.h263_bits.specs.Bytes.{bytes_filled}

-- the marks of flags, the first of which is the lowest bit. A message of version 1 has none
abbrev pub marks_of_flags : List Bool → Option ℕ
marks_of_flags [] = None
marks_of_flags (flag ∷ flags) = Some (number (reverse (flag ∷ flags)))

-- a message of a call, with its flags as marks
abbrev pub marked_message : call.Message → Message
marked_message (call.Ack number flags) = Ack number (marks_of_flags flags)
marked_message (call.Nack number offered flags) = Nack number offered (marks_of_flags flags)

-- the bytes of a message's text
unfoldable pub written_message : Message → List ℕ
written_message m = bytes_filled (message_bits m / 8) (message_text m)

abbrev pub write_message : call.Message → List ℕ
write_message m = written_message (marked_message m)

-- what was read, as a call has it
abbrev pub as_read : Result Message MessageFault → Result call.Message MessageFault
as_read (Ok m) = Ok (message_of m)
as_read (Err fault) = Err fault

abbrev pub read_message : Clock → List ℕ → Result call.Message MessageFault
read_message clock bytes = as_read (message_in clock bytes)
