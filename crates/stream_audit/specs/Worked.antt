-- Logs over pictures of two macroblocks, whose verdicts are computed.
use Rattle.std.specs.Prelude.{ℕ, ◌+◌, List, [], ◌∷◌}
use Rattle.call_model.specs.Coding.{Rules}
use Rattle.call_model.specs.SmallCoding.{small_decoding, small_read_message, SmallStyle, SmallMb}
use Rattle.call_model.specs.IdealCall.{Send, Deliver, Play, Back}
use Rattle.stream_audit.specs.declared.verdict.Verdict.{Verdict}
use Rattle.stream_audit.specs.Stream.{LogEntry, Sent, Fed, Item, stream_of}
use Rattle.stream_audit.specs.Verdict.{verdict_of}
use Rattle.stream_audit.specs.Replay.{AllMayHappenIn, Happens, PassedOver, StreamEvent}

-- rules with so many slots, this lead and this half period
abbrev small_rules : (slots lead half : ℕ) → Rules
small_rules slots lead half = record { slots = slots; lead = lead; half = half; chain = 131; mbs = 2; flags = 0 }

-- temporal references of eight bits and a window of twelve pictures; of two bits, with a window of
-- two pictures, and with a window of one
abbrev pub wide : Rules
wide = small_rules 16 3 128

abbrev pub short_period : Rules
short_period = small_rules 4 1 2

abbrev pub of_two_slots : Rules
of_two_slots = small_rules 2 0 2

-- the verdict on a log, the newest first
abbrev pub worked_verdict : Rules → List LogEntry → Verdict
worked_verdict rules log = verdict_of small_decoding small_read_message rules log

-- an intra picture in one packet; the left and the right half of one, by the place; and a picture
-- that refers to the one with this temporal reference
abbrev pub intra_entry : Rules → ℕ → LogEntry
intra_entry rules number = Sent (number ∷ 0 ∷ rules.half ∷ 0 ∷ 8 ∷ 0 ∷ 5 ∷ 5 ∷ [])

abbrev pub half_entry : Rules → ℕ → ℕ → LogEntry
half_entry rules number place = Sent (number ∷ 0 ∷ rules.half ∷ 0 ∷ 8 ∷ place ∷ 5 ∷ [])

abbrev pub predicted : Rules → ℕ → ℕ → LogEntry
predicted rules number reference = Sent (number ∷ (reference + 1) ∷ rules.half ∷ 1 ∷ 8 ∷ 0 ∷ 5 ∷ 5 ∷ [])

abbrev pub ack : ℕ → LogEntry
ack number = Fed (0 ∷ number ∷ [])

abbrev pub nack_entry : ℕ → ℕ → LogEntry
nack_entry number offered = Fed (1 ∷ number ∷ offered ∷ [])

-- bytes that are no message
abbrev pub bytes_of_no_message : LogEntry
bytes_of_no_message = Fed (7 ∷ [])

-- a call of two pictures: the first is sent, delivered and acknowledged, after bytes that are no message,
-- and the second refers to it
abbrev two_pictures : List (Item SmallStyle SmallMb)
two_pictures = stream_of small_decoding (predicted wide 1 0 ∷ ack 0 ∷ bytes_of_no_message ∷ intra_entry wide 0 ∷ [])

abbrev its_events : List StreamEvent
its_events =
    Happens Play ∷ Happens Play ∷ Happens (Deliver 1 0) ∷ Happens Send
    ∷ Happens (Back 0) ∷ PassedOver ∷ Happens (Deliver 0 0) ∷ Happens Send ∷ []

abbrev pub MayHappenAll : Type 0
MayHappenAll = AllMayHappenIn small_decoding small_read_message wide two_pictures its_events
