-- Calls of any sender whose pictures are sound, and the receiver's run in them.
use Rattle.std.specs.Prelude.{◌≡◌, ℕ, ◌+◌, ◌%◌, ◌<◌, ◌≤◌, ⊤, true, nat_lt, List, [], ◌∷◌, length, slice_get, Option, Some, None, Ok, option_and_then, if◌then◌else◌, Bool, false}
use Rattle.std.specs.Option.{option_map_or}
use Rattle.call_model.specs.Coding.{Rules, window, period, Slice, Ack, Message, Pictures, Decoding, Coding, reconstruction_of_slices}
use Rattle.call_model.specs.CodedPictures.{Coded, picture_at, is_among}
use Rattle.call_model.specs.IdealCall.{Event, Send, Deliver, Play, Back, NumberedMessage, about, told_full, Call, Source, MayHappen, AllMayHappenFrom, encoded, shown_at, shown_last, has_arrived, is_full, newest_full, full_flags, with_arrival, call_from}
use Rattle.call_model.specs.Sending.{header_of, packets_at, message_flags, made_known}
use Rattle.call_model.specs.Receiving.{ReceiverRun, Heard, Refused, OtherClock, Late, Early, HeaderDiffers, MissingReference, Repeat, Overlap, Completed, Taken, nack, heard, played_shown, played_message, after_packet, after_play, receiver_run}
use Rattle.call_model.specs.Lawful.{Covers, IsInPeriod, IsPace}
use Rattle.call_model.specs.TwoStores.{travelling, MatchArrivals, CompleteAreFull, PicturesAreThose}

-- A picture is sound where it is sent: its slices cover it, it is what decoding gives of them, and
-- its reference, if it has one, is in the window and known to be full.
pub record IsSoundPicture {Style Mb Picture : Type 0} (pictures : Pictures Style Mb Picture)
    (rules : Rules) (c : Call Style Mb Picture) (x : Coded Style Mb Picture) : Type 0 where
  pub covers : Covers rules.mbs x.slices
  pub picture : x.picture ≡ reconstruction_of_slices pictures x.style
      (option_and_then (picture_at c.coded) x.reference) x.slices
  pub reference : (m : ℕ) → x.reference ≡ Some m → (length c.coded ≤ m + window rules) × (is_among c.known m ≡ true)

-- the packets of the picture n of a call
abbrev pub Packets : Type 0 → Type 0 → Type 0 → Type 0
Packets Style Mb Picture = List (Coded Style Mb Picture) → ℕ → List (List ℕ)

-- what a delivery of the picture's slice at place j hands over: bytes that are read as that slice
-- with the picture's header, and nothing where there is no such slice
pub record IsPacketOfSlice {Style Mb Picture Fault : Type 0} (decoding : Decoding Style Mb Picture Fault)
    (rules : Rules) (packets : List (List ℕ)) (n j : ℕ) (x : Coded Style Mb Picture) : Type 0 where
  pub read_as : (slice : Slice Mb) → slice_get x.slices j ≡ Some slice
      → (bytes : List ℕ) × (slice_get packets j ≡ Some bytes)
      × (decoding.read bytes ≡ Ok (record { header = header_of rules n x; slice = slice }))
  pub no_other : slice_get x.slices j ≡ None → slice_get packets j ≡ None

-- The receiver's answer to a delivery, by the ideal call.
unfoldable pub delivery_answer : {Style Mb Picture Fault : Type 0} → Rules → Call Style Mb Picture → ℕ → ℕ → Heard Fault
delivery_answer rules c n j =
    if nat_lt n c.played then Late
    else if nat_lt (c.played + rules.lead) n then Early
    else if has_arrived c.arrivals n j then Repeat
    else if is_full c.coded (with_arrival c.arrivals n j) n
    then Completed (Ack (n % period rules) (full_flags rules c.coded (with_arrival c.arrivals n j) n))
    else Taken

-- the message of the next play, by the ideal call
unfoldable pub play_message : {Style Mb Picture : Type 0} → Rules → Call Style Mb Picture → Option Message
play_message rules c =
    if is_full c.coded c.arrivals c.played then None
    else Some (nack rules c.played (newest_full rules c.coded c.arrivals c.played)
    (full_flags rules c.coded c.arrivals c.played))

module _ {Style Mb Picture Fault : Type 0} (decoding : Decoding Style Mb Picture Fault) (rules : Rules) where
  -- the receiver is where the call is: it has played as much and shows the same, has taken what has
  -- arrived, and has complete what is full, with its reconstruction
  pub record ReceiverIsAt (c : Call Style Mb Picture) (run : ReceiverRun Style Mb Picture) : Type 0 where
    pub played : run.played ≡ c.played
    pub screen : run.screen ≡ shown_last decoding.pictures c.plays
    pub taken : MatchArrivals rules c.coded c.arrivals run.taken
    pub complete : CompleteAreFull rules c run.taken
    pub pictures : PicturesAreThose decoding rules c run.taken

  module _ (source : Source Style Mb Picture) (packets : Packets Style Mb Picture) where
    -- a picture that is sent is sound, and what is delivered is its packet
    abbrev pub IsSoundEvent : Call Style Mb Picture → Event → Type 0
    IsSoundEvent c Send = (x : Coded Style Mb Picture) → source c ≡ Some x → IsSoundPicture decoding.pictures rules c x
    IsSoundEvent c (Deliver n j) =
        (x : Coded Style Mb Picture) → slice_get c.coded n ≡ Some x
        → IsPacketOfSlice decoding rules (packets c.coded n) n j x
    IsSoundEvent c Play = ⊤
    IsSoundEvent c (Back k) = ⊤

    -- so is each event after those before it
    abbrev pub AllSound : List Event → Type 0
    AllSound [] = ⊤
    AllSound (e ∷ past) = IsSoundEvent (call_from decoding.pictures rules source past) e × AllSound past

    -- the receiver's run in the call: it is handed what is delivered, and plays
    abbrev pub received : List Event → ReceiverRun Style Mb Picture
    received [] = receiver_run decoding rules []
    received (Deliver n j ∷ past) =
        option_map_or (λ bytes. after_packet decoding rules bytes (received past))
        (slice_get (packets (call_from decoding.pictures rules source past).coded n) j) (received past)
    received (Play ∷ past) = after_play decoding rules (received past)
    received (_ ∷ past) = received past

    -- each delivery of a slice is answered as the call says,
    abbrev pub AnswersAsTheCall : ℕ → List Event → Type 0
    AnswersAsTheCall count past = (n j : ℕ) (bytes : List ℕ) →
        let c = call_from decoding.pictures rules source past in
        MayHappen rules count c (Deliver n j) → IsSoundEvent c (Deliver n j)
        → slice_get (packets c.coded n) j ≡ Some bytes
        → heard decoding rules (received past) (decoding.read bytes) ≡ delivery_answer rules c n j

    -- and each play shows what the call shows, and says what it says
    abbrev pub PlaysAsTheCall : ℕ → List Event → Type 0
    PlaysAsTheCall count past =
        let c = call_from decoding.pictures rules source past in
        MayHappen rules count c Play
        → (played_shown decoding rules (received past) ≡ shown_at decoding.pictures c.coded c.arrivals c.plays c.played)
        × (played_message decoding rules (received past) ≡ play_message rules c)

  -- A message that was said has temporal references and flags as it travels, and is read as it was
  -- meant: where it is brought back in time, it makes known what it tells to be full.
  pub record IsUnderstood (c : Call Style Mb Picture) (note : NumberedMessage) : Type 0 where
    pub in_period : IsInPeriod rules (travelling rules note)
    pub flags : length (message_flags (travelling rules note)) ≡ rules.flags
    pub known : length c.coded < about note + rules.half
        → made_known rules (length c.coded) (travelling rules note) ≡ Some (told_full note)

  -- A receiver in a near call of any sound sender is where the call is, answers and plays as the
  -- call says, and its messages are understood.
  pub record FollowsTheCall (source : Source Style Mb Picture)
      (packets : Packets Style Mb Picture) (count : ℕ) (past : List Event) : Type 0 where
    pub state : ReceiverIsAt (call_from decoding.pictures rules source past) (received source packets past)
    pub answers : AnswersAsTheCall source packets count past
    pub plays : PlaysAsTheCall source packets count past
    pub messages : (k : ℕ) (note : NumberedMessage)
        → slice_get (call_from decoding.pictures rules source past).said k ≡ Some note
        → IsUnderstood (call_from decoding.pictures rules source past) note

  abbrev pub AnySoundSender : Type 0
  AnySoundSender = (source : Source Style Mb Picture)
      (packets : Packets Style Mb Picture) (count : ℕ) (past : List Event) →
      AllMayHappenFrom decoding.pictures rules source count past
      → AllSound source packets past → FollowsTheCall source packets count past

-- the answer refuses the packet
abbrev pub is_refused : {Fault : Type 0} → Heard Fault → Bool
is_refused (Refused fault) = true
is_refused OtherClock = true
is_refused HeaderDiffers = true
is_refused MissingReference = true
is_refused Overlap = true
is_refused _ = false

-- what a call says is no refusal
abbrev pub NoneRefused : Type 0 → Type 0 → Type 0 → Type 0 → Type 0
NoneRefused Style Mb Picture Fault = (rules : Rules) (c : Call Style Mb Picture) (n j : ℕ)
    → is_refused {Fault = Fault} (delivery_answer rules c n j) ≡ false

-- the encoder's pictures are sound, and its packets are theirs, whatever the events
abbrev pub EncoderIsSound : {Frame Style Mb Picture Fault MessageFault : Type 0}
    → Coding Frame Style Mb Picture Fault MessageFault → Rules → Type 0
EncoderIsSound {Frame} {Style} {Mb} {Picture} {Fault} {MessageFault} coding rules =
    (pace : List ℕ → ℕ) (frames : List Frame) (past : List Event) → IsPace pace
    → AllSound coding.decoding rules (encoded coding rules pace frames) (packets_at coding.encoding rules) past
