-- What was read of the messages, in its four places.
use Rattle.std.specs.Prelude.{◌≡◌, List, Option, Result, Ok, Err}
use Rattle.h263_bits.specs.declared.fault.Fault.{Fault}
use Rattle.h263_bits.specs.Reading.{Bits}
use Rattle.back_messages.specs.declared.message.Message.{Message}
use Rattle.picture_header.specs.Text.{in_places}

-- the call answered the messages of a reading in their places, or its fault
abbrev pub ReadsBack : Result (List (Option Message)) Fault → Bits → Result (List Message × Bits) Fault → Type 0
ReadsBack (Ok places) left read =
    (messages : List Message) × (read ≡ Ok (messages, left)) × (places ≡ in_places messages)
ReadsBack (Err e) left read = read ≡ Err e
