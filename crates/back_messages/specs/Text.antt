-- A back-channel message: type 2, URF 1, TR 10, marker 1, RTR 10, 24 bits in all; where URF is 1
-- two bytes of flags follow.
use Rattle.std.specs.Prelude.{ℕ, ◌/◌, ◌%◌, ◌^◌, ◌<◌, List, [], ◌∷◌, ◌++◌, reverse, length, take, drop, Bool, true, false, Option, Some, None, Result, Ok, Err, nat_lt, nat_le, not, ◌==◌, ◌&&◌, if◌then◌else◌}
use Rattle.h263_bits.specs.declared.fault.FaultKind.{FaultKind}
use Rattle.h263_bits.specs.declared.fault.FaultKind.TheVariants as faults
use Rattle.h263_bits.specs.Bits.{bits_of, number, spelled, fields}
use Rattle.h263_bits.specs.Syntax.{Syntax, Allowed, any, either, field, part, done, same_bit}
use Rattle.h263_types.specs.declared.clock.Clock.{Clock}
use Rattle.h263_types.specs.Clocks.{period_of}
use Rattle.back_messages.specs.declared.message.Message.{Message}
use Rattle.back_messages.specs.declared.message.Message.TheVariants.{Ack, Nack}
use Rattle.back_messages.specs.declared.message.MessageFault.{MessageFault}
use Rattle.back_messages.specs.declared.message.MessageFault.TheVariants.{Length, Kind, High, Marker, Pair}

-- fourteen flags, if there are any
abbrev pub AreMarks : Option ℕ → Type 0
AreMarks None = Unit {0}
AreMarks (Some marks) = marks < 2 ^ 14

-- a message whose temporal references are those of a clock
abbrev pub IsMessage : Clock → Message → Type 0
IsMessage clock (Ack tr marks) = (tr < period_of clock) × AreMarks marks
IsMessage clock (Nack tr rtr marks) = (tr < period_of clock) × (rtr < period_of clock) × AreMarks marks

-- ---- what is written

-- a message of version 2 has flags, and says so
abbrev pub urf_of : Option ℕ → ℕ
urf_of None = 0
urf_of (Some marks) = 1

abbrev pub message_fields : ℕ → ℕ → ℕ → Option ℕ → List (ℕ × ℕ)
message_fields type tr rtr marks = (2, type) ∷ (1, urf_of marks) ∷ (10, tr) ∷ (1, 1) ∷ (10, rtr) ∷ []

-- flag j, which says that the picture after TR by j + 1 is complete, is bit j of the marks
abbrev pub flags_in_field : ℕ → List Bool
flags_in_field marks = reverse (spelled 14 marks)

-- two bytes, each a marker and seven flags
abbrev pub flags_text : Option ℕ → List Bool
flags_text None = []
flags_text (Some marks) = (true ∷ take 7 (flags_in_field marks)) ++ (true ∷ drop 7 (flags_in_field marks))

-- an Ack repeats its temporal reference
abbrev pub first_text : Message → List Bool
first_text (Ack tr marks) = fields (message_fields 3 tr tr marks)
first_text (Nack tr rtr marks) = fields (message_fields 2 tr rtr marks)

abbrev pub message_marks : Message → Option ℕ
message_marks (Ack tr marks) = marks
message_marks (Nack tr rtr marks) = marks

unfoldable pub message_text : Message → List Bool
message_text m = first_text m ++ flags_text (message_marks m)

abbrev pub bits_with : Option ℕ → ℕ
bits_with None = 24
bits_with (Some marks) = 40

-- how many bits the text has
abbrev pub message_bits : Message → ℕ
message_bits m = bits_with (message_marks m)

-- ---- what is read

-- the first fault of the fields in their order, where the message is of three bytes, or long, of five
abbrev pub first_field_fault : Clock → Bool → ℕ → ℕ → ℕ → ℕ → ℕ → Option MessageFault
first_field_fault clock long type urf tr marker rtr =
    if nat_lt type 2 then Some Kind
    else if not (same_bit long (urf == 1)) then Some Length
    else if nat_le (period_of clock) tr then Some High
    else if marker == 0 then Some Marker
    else if nat_le (period_of clock) rtr then Some High
    else if (type == 3) && not (tr == rtr) then Some Pair
    else None

abbrev pub message_of_fields : ℕ → ℕ → ℕ → Option ℕ → Message
message_of_fields type tr rtr marks = if type == 2 then Nack tr rtr marks else Ack tr marks

-- URF
abbrev pub is_long : ℕ → Bool
is_long n = n / 2 ^ 21 % 2 == 1

-- the first fault of the message's first 24 bits
unfoldable pub message_fault : Clock → Bool → ℕ → Option MessageFault
message_fault clock long n = first_field_fault clock long
    (n / 2 ^ 22) (n / 2 ^ 21 % 2) (n / 2 ^ 11 % 2 ^ 10) (n / 2 ^ 10 % 2) (n % 2 ^ 10)

-- the value of these bits with marks
unfoldable pub message_value : ℕ → Option ℕ → Message
message_value n marks = message_of_fields (n / 2 ^ 22) (n / 2 ^ 11 % 2 ^ 10) (n % 2 ^ 10) marks

-- both bytes of flags begin with their marker
abbrev pub has_markers : ℕ → Bool
has_markers n = (n / 2 ^ 15 % 2 == 1) && (n / 2 ^ 7 % 2 == 1)

-- the marks of two bytes of flags
unfoldable pub marks_in : ℕ → ℕ
marks_in n = number (reverse (spelled 7 (n / 2 ^ 8) ++ spelled 7 n))

-- the same, unless a marker is missing
abbrev pub marked : ℕ → Option ℕ
marked n = if has_markers n then Some (marks_in n) else None

abbrev pub message_unless : Option MessageFault → Result Message MessageFault → Result Message MessageFault
message_unless None read = read
message_unless (Some fault) read = Err fault

-- the message of 24 bits
abbrev pub short_message : Clock → ℕ → Result Message MessageFault
short_message clock n = message_unless (message_fault clock false n) (Ok (message_value n None))

abbrev pub with_marks : ℕ → Option ℕ → Result Message MessageFault
with_marks n None = Err Marker
with_marks n (Some marks) = Ok (message_value n (Some marks))

-- the message of 24 bits, and of 16 with its flags
abbrev pub long_message : Clock → ℕ → ℕ → Result Message MessageFault
long_message clock n flags = message_unless (message_fault clock true n) (with_marks n (marked flags))

-- the message that bytes spell
unfoldable pub message_in : Clock → List ℕ → Result Message MessageFault
message_in clock bytes =
    if length bytes == 3 then short_message clock (number (bits_of bytes))
    else if length bytes == 5
    then long_message clock (number (bits_of (take 3 bytes))) (number (bits_of (drop 3 bytes)))
    else Err Length

-- ---- a message in a header

abbrev pub is_fault : Option MessageFault → Option FaultKind
is_fault None = None
is_fault (Some fault) = Some faults.Messages

-- in a header URF gives the length, and a message with any fault is one fault
abbrev pub allowed_message : Clock → Allowed ℕ
allowed_message clock n = is_fault (message_fault clock (is_long n) n)

abbrev pub allowed_markers : Allowed ℕ
allowed_markers n = if has_markers n then None else Some faults.Messages

-- the flags are a field of their own
unfoldable pub flags : Syntax ℕ
flags = field 16 allowed_markers λ n. done (marks_in n)

unfoldable pub message : Clock → Syntax Message
message clock =
    field 24 (allowed_message clock) λ n.
    either (is_long n) (part flags any λ marks. done (message_value n (Some marks))) (done (message_value n None))
