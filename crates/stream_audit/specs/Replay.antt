-- A receiver in a call of a stream: the events deliver the stream's packets, bring back the feedback of
-- its log where the receiver has said it, and pass over feedback that makes nothing known.
use Rattle.std.specs.Prelude.{◌≡◌, ◌⊎◌, ℕ, ◌+◌, ◌<◌, ⊤, false, ◌==◌, List, [], ◌∷◌, ◌++◌, length, slice_get, Option, Some, None, Result, Ok, if◌then◌else◌, option_and_then}
use Rattle.std.specs.Option.{option_map_or}
use Rattle.std.specs.Result.{result_ok}
use Rattle.call_model.specs.Coding.{Rules, period, Piece, Message, Exact, Decoding, reconstruction_of_slices}
use Rattle.call_model.specs.Before.{IsOpen}
use Rattle.call_model.specs.IdealCall.{Event, Send, Deliver, Play, Back}
use Rattle.call_model.specs.Receiving.{ReceiverRun, Heard, Completed, heard, after_packet, after_play, played_message, played_mark, played_picture, receiver_run}
use Rattle.call_model.specs.Sending.{known_by_feedback, nearest_below}
use Rattle.call_model.specs.Sound.{is_refused}
use Rattle.stream_audit.specs.declared.verdict.Verdict.TheVariants.{Yes}
use Rattle.stream_audit.specs.Stream.{LogEntry, StreamPicture, Item, Picture, Feedback, stream_packets, part_slices, stream_of}
use Rattle.stream_audit.specs.Verdict.{verdict_of}

-- a message that the receiver said, and the picture that it is about
pub record MessageAbout : Type 0 where
  pub about : ℕ
  pub message : Message

-- what happens in a call of a stream: an event of the call, or the stream's next feedback is passed
-- over
pub data StreamEvent : Type 0 where
  Happens : Event → StreamEvent
  PassedOver : StreamEvent

-- the events of the call among these
abbrev pub events_in : List StreamEvent → List Event
events_in [] = []
events_in (Happens e ∷ past) = e ∷ events_in past
events_in (PassedOver ∷ past) = events_in past

-- how many items of the stream and how many pictures the events have had, the receiver, and what it
-- said, oldest first
pub record Replay (Style Mb P : Type 0) : Type 0 where
  pub items : ℕ
  pub sent : ℕ
  pub receiver : ReceiverRun Style Mb P
  pub said : List MessageAbout

-- item k of a stream, which has the newest first
abbrev pub item_at : {Style Mb : Type 0} → List (Item Style Mb) → ℕ → Option (Item Style Mb)
item_at [] k = None
item_at (item ∷ items) k = if length items == k then Some item else item_at items k

-- what the receiver says to a packet of picture n with this answer
abbrev pub about_said_to : {Fault : Type 0} → ℕ → Heard Fault → List MessageAbout
about_said_to n (Completed message) = record { about = n; message = message } ∷ []
about_said_to n _ = []

-- the packet at place j of picture n was delivered while n was open
abbrev pub CameInTime : Rules → List Event → ℕ → ℕ → Type 0
CameInTime rules [] n j = ⊥
CameInTime rules (Deliver m i ∷ past) n j =
    ((m ≡ n) × (i ≡ j) × IsOpen rules past n) ⊎ CameInTime rules past n j
CameInTime rules (_ ∷ past) n j = CameInTime rules past n j

module _ {Style Mb P Fault : Type 0} (decoding : Decoding Style Mb P Fault) (rules : Rules) where
  -- the next picture after these, as it is decoded: from its slices, and from the one to which it
  -- refers, which is the nearest before it with the temporal reference that its header names
  abbrev pub decoded_next : List P → StreamPicture Style Mb → P
  decoded_next before p =
      let reference = option_and_then (nearest_below rules (length before)) p.header.reference in
      reconstruction_of_slices decoding.pictures p.header.style
      (option_and_then (slice_get before) reference) (part_slices p)

  -- the pictures of a stream as they are decoded, the first of them first
  abbrev pub decoded_in : List (Item Style Mb) → List P
  decoded_in [] = []
  decoded_in (Picture p ∷ items) = decoded_in items ++ decoded_next (decoded_in items) p ∷ []
  decoded_in (Feedback bytes ∷ items) = decoded_in items

module _ {Style Mb P Fault MessageFault : Type 0} (decoding : Decoding Style Mb P Fault)
    (read : List ℕ → Result Message MessageFault) (rules : Rules) (stream : List (Item Style Mb)) where
  abbrev pub replay_after_bytes : Replay Style Mb P → ℕ → List ℕ → Replay Style Mb P
  replay_after_bytes w n bytes = record w {
    receiver = after_packet decoding rules bytes w.receiver;
    said = w.said ++ about_said_to n (heard decoding rules w.receiver (decoding.read bytes));
  }

  abbrev pub replayed_said : ReceiverRun Style Mb P → List MessageAbout
  replayed_said r =
      option_map_or (λ m. record { about = r.played; message = m } ∷ []) (played_message decoding rules r) []

  -- One event more: the next picture of the stream is sent, a packet of a picture is delivered, the
  -- next picture is played, the next feedback of the stream is brought back, or it is passed over.
  abbrev pub replay_after_event : Replay Style Mb P → StreamEvent → Replay Style Mb P
  replay_after_event w (Happens Send) = record w { items = w.items + 1; sent = w.sent + 1 }
  replay_after_event w (Happens (Deliver n j)) = option_map_or (replay_after_bytes w n)
      (slice_get (stream_packets stream n) j) w
  replay_after_event w (Happens Play) = record w {
    receiver = after_play decoding rules w.receiver;
    said = w.said ++ replayed_said w.receiver;
  }
  replay_after_event w (Happens (Back k)) = record w { items = w.items + 1 }
  replay_after_event w PassedOver = record w { items = w.items + 1 }

  -- the receiver after these events, the newest first
  abbrev pub replay : List StreamEvent → Replay Style Mb P
  replay [] = record { items = 0; sent = 0; receiver = receiver_run decoding rules []; said = [] }
  replay (e ∷ past) = replay_after_event (replay past) e

  -- The event is in place: the next item of the stream is a picture, the picture was sent, the next
  -- item is feedback that spells message k. And it is near: its picture is less than half a period
  -- away. Feedback is passed over that makes nothing known: it is refused, or it is old.
  abbrev pub MayHappenIn : Replay Style Mb P → StreamEvent → Type 0
  MayHappenIn w (Happens Send) = (p : StreamPicture Style Mb) × (item_at stream w.items ≡ Some (Picture p))
      × (w.sent < w.receiver.played + rules.half)
  MayHappenIn w (Happens (Deliver n j)) = (n < w.sent) × (w.receiver.played < n + rules.half)
  MayHappenIn w (Happens Play) = w.receiver.played < w.sent
  MayHappenIn w (Happens (Back k)) = (told : MessageAbout) × (bytes : List ℕ) × (slice_get w.said k ≡ Some told)
      × (item_at stream w.items ≡ Some (Feedback bytes)) × (read bytes ≡ Ok told.message)
      × (w.sent < told.about + rules.half)
  MayHappenIn w PassedOver = (bytes : List ℕ) × (item_at stream w.items ≡ Some (Feedback bytes))
      × (known_by_feedback rules w.sent (result_ok (read bytes)) ≡ [])

  -- so is each event after those before it
  abbrev pub AllMayHappenIn : List StreamEvent → Type 0
  AllMayHappenIn [] = ⊤
  AllMayHappenIn (e ∷ past) = MayHappenIn (replay past) e × AllMayHappenIn past

  -- a packet that is delivered is not refused
  abbrev pub NoneIsRefused : Type 0
  NoneIsRefused = (past : List StreamEvent) (n j : ℕ) (bytes : List ℕ) →
      AllMayHappenIn (Happens (Deliver n j) ∷ past) → slice_get (stream_packets stream n) j ≡ Some bytes
      → is_refused (heard decoding rules (replay past).receiver (decoding.read bytes)) ≡ false

  -- a picture whose packets all came in time is marked exact, and shown as the stream has it decoded
  abbrev pub ExactWhereAllCame : Type 0
  ExactWhereAllCame = (past : List StreamEvent) →
      let n = (replay past).receiver.played in
      AllMayHappenIn (Happens Play ∷ past)
      → ((j : ℕ) → j < length (stream_packets stream n) → CameInTime rules (events_in past) n j)
      → (played_mark decoding rules (replay past).receiver ≡ Exact)
      × (slice_get (decoded_in decoding rules stream) n ≡ Some (played_picture decoding rules (replay past).receiver))

-- the temporal reference of a reference that is read is below the period of the header's clock
abbrev pub ReadsInPeriod : {Style Mb P Fault : Type 0} → Decoding Style Mb P Fault → Rules → Type 0
ReadsInPeriod {Style} {Mb} {P} {Fault} decoding rules = (bytes : List ℕ) (piece : Piece Style Mb) (rest : ℕ)
    → decoding.read bytes ≡ Ok piece → piece.header.half ≡ rules.half
    → piece.header.reference ≡ Some rest → rest < period rules

-- Where the verdict on a log is yes, no receiver in any near call of its stream refuses a packet of
-- it, and each picture whose packets all come in time is exact, and shown as it is decoded.
abbrev pub Audited : {Style Mb P Fault MessageFault : Type 0} → Decoding Style Mb P Fault
    → (List ℕ → Result Message MessageFault) → Rules → Type 0
Audited decoding read rules = (log : List LogEntry) (count : ℕ) →
    verdict_of decoding read rules log ≡ Yes count
    → NoneIsRefused decoding read rules (stream_of decoding log)
    × ExactWhereAllCame decoding read rules (stream_of decoding log)
