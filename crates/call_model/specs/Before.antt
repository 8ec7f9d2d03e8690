-- The ideal call of any source before an event, by a name for each thing: what is so after the
-- events before it, the newest first.
use Rattle.std.specs.Prelude.{◌≡◌, ◌↔◌, ◌⊎◌, ℕ, ◌+◌, ◌<◌, ◌≤◌, Bool, true, ◌==◌, List, [], ◌∷◌, length, slice_get, Option, Some, None, option_and_then, if◌then◌else◌}
use Rattle.std.specs.Option.{option_map}
use Rattle.call_model.specs.Coding.{Rules, Mark, Exact, Pictures, Coding, pictures_of, Shown}
use Rattle.call_model.specs.CodedPictures.{Coded, depth_at, picture_at}
use Rattle.call_model.specs.IdealCall.{Event, Send, Deliver, Play, NumberedMessage, Call, Source, has_arrived, slices_at, is_full, call_from, encoded, ideal, AllMayHappen, AllMayHappenFrom}

-- how many pictures were sent
abbrev pub sent_before : List Event → ℕ
sent_before [] = 0
sent_before (Send ∷ past) = sent_before past + 1
sent_before (_ ∷ past) = sent_before past

-- how many pictures were played
abbrev pub played_before : List Event → ℕ
played_before [] = 0
played_before (Play ∷ past) = played_before past + 1
played_before (_ ∷ past) = played_before past

-- picture n is open: from lead pictures before its play until its play
abbrev pub IsOpen : Rules → List Event → ℕ → Type 0
IsOpen rules past n = (played_before past ≤ n) × (n ≤ played_before past + rules.lead)

-- what play n showed, among the plays with the newest first
abbrev pub play_at : {Picture : Type 0} → List (Shown Picture) → ℕ → Option (Shown Picture)
play_at [] n = None
play_at (x ∷ shown) n = if length shown == n then Some x else play_at shown n

-- the source has a picture while fewer than this many were sent
abbrev pub Sends : {Style Mb Picture : Type 0} → Source Style Mb Picture → ℕ → Type 0
Sends {Style} {Mb} {Picture} source count =
    (c : Call Style Mb Picture) → length c.coded < count → (x : Coded Style Mb Picture) × (source c ≡ Some x)

module _ {Style Mb Picture : Type 0}
    (pictures : Pictures Style Mb Picture) (rules : Rules) (source : Source Style Mb Picture) where
  -- the ideal call before an event, after these
  abbrev pub call_after : List Event → Call Style Mb Picture
  call_after past = call_from pictures rules source past

  -- the slice at place j of picture n arrived while n was open
  abbrev pub arrived : List Event → ℕ → ℕ → Bool
  arrived past n j = has_arrived (call_after past).arrivals n j

  -- picture n was sent, and each of its slices arrived while it was open
  abbrev pub IsFull : List Event → ℕ → Type 0
  IsFull past n = is_full (call_after past).coded (call_after past).arrivals n ≡ true

  -- the messages, oldest first
  abbrev pub said : List Event → List NumberedMessage
  said past = (call_after past).said

  -- the pictures that the sender knows to be full
  abbrev pub known : List Event → List ℕ
  known past = (call_after past).known

  -- the reference of picture n, none where it is coded intra or was not sent
  abbrev pub reference_of : List Event → ℕ → Option ℕ
  reference_of past n = option_and_then
      (λ (x : Coded Style Mb Picture). x.reference) (slice_get (call_after past).coded n)

  -- the length of its chain of references
  abbrev pub depth_of : List Event → ℕ → ℕ
  depth_of past n = depth_at (call_after past).coded n

  -- what decoding gives of picture n, if it was sent
  abbrev pub reconstruction_of : List Event → ℕ → Option Picture
  reconstruction_of past n = picture_at (call_after past).coded n

  -- the mark of picture n, if it was played
  abbrev pub mark_of : List Event → ℕ → Option Mark
  mark_of past n = option_map (λ (x : Shown Picture). x.mark) (play_at (call_after past).plays n)

  -- what the play of picture n showed, if it was played
  abbrev pub shown : List Event → ℕ → Option Picture
  shown past n = option_map (λ (x : Shown Picture). x.picture) (play_at (call_after past).plays n)

  -- how many slices picture n has: none where it was not sent
  abbrev pub slices_before : List Event → ℕ → ℕ
  slices_before past n = length (slices_at (call_after past).coded n)

  -- the slice at place j of picture n was delivered while n was open
  abbrev pub WasDelivered : List Event → ℕ → ℕ → Type 0
  WasDelivered [] n j = ⊥
  WasDelivered (Deliver m i ∷ past) n j =
      ((m ≡ n) × (i ≡ j) × IsOpen rules past n × (j < slices_before past n)) ⊎ WasDelivered past n j
  WasDelivered (_ ∷ past) n j = WasDelivered past n j

  -- the pictures that the call has sent and played are the events that did so
  abbrev pub CountsByEvents : Type 0
  CountsByEvents = (count : ℕ) → Sends source count → (past : List Event) →
      (AllMayHappenFrom pictures rules source count past → length (call_after past).coded ≡ sent_before past)
      × ((call_after past).played ≡ played_before past)

  -- what has arrived is what was delivered in time
  abbrev pub ArrivedByEvents : Type 0
  ArrivedByEvents = (past : List Event) (n j : ℕ) → (arrived past n j ≡ true) ↔ WasDelivered past n j

  -- the play of a picture is marked exact where the picture is full and nowhere else, and then
  -- shows what decoding gives of it
  abbrev pub ExactByEvents : Type 0
  ExactByEvents = (past : List Event) → let n = played_before past in
      ((mark_of (Play ∷ past) n ≡ Some Exact) ↔ IsFull past n)
      × (IsFull past n → shown (Play ∷ past) n ≡ reconstruction_of past n)

  -- what a play showed stays
  abbrev pub ShownByEvents : Type 0
  ShownByEvents = (past : List Event) (e : Event) (n : ℕ) → n < played_before past →
      (mark_of (e ∷ past) n ≡ mark_of past n) × (shown (e ∷ past) n ≡ shown past n)

-- the same of the call of an encoder, which sends these frames
module _ {Frame Style Mb Picture Fault MessageFault : Type 0}
    (coding : Coding Frame Style Mb Picture Fault MessageFault)
    (rules : Rules) (pace : List ℕ → ℕ) (frames : List Frame) where
  abbrev pub CountsAreThose : Type 0
  CountsAreThose = (past : List Event) →
      (AllMayHappen coding rules pace frames past
      → length (ideal coding rules pace frames past).coded ≡ sent_before past)
      × ((ideal coding rules pace frames past).played ≡ played_before past)

  abbrev pub ArrivedWasDelivered : Type 0
  ArrivedWasDelivered = ArrivedByEvents (pictures_of coding) rules (encoded coding rules pace frames)

  abbrev pub ExactWhereFull : Type 0
  ExactWhereFull = ExactByEvents (pictures_of coding) rules (encoded coding rules pace frames)

  abbrev pub ShownStays : Type 0
  ShownStays = ShownByEvents (pictures_of coding) rules (encoded coding rules pace frames)

  -- a picture that was sent keeps its reference, its depth and its reconstruction
  abbrev pub CodedStays : Type 0
  CodedStays = (past : List Event) (e : Event) (n : ℕ) → n < length (ideal coding rules pace frames past).coded →
      let pictures = pictures_of coding in
      let source = encoded coding rules pace frames in
      (reference_of pictures rules source (e ∷ past) n ≡ reference_of pictures rules source past n)
      × (depth_of pictures rules source (e ∷ past) n ≡ depth_of pictures rules source past n)
      × (reconstruction_of pictures rules source (e ∷ past) n ≡ reconstruction_of pictures rules source past n)

-- what the call says of events depends on the frames that they send alone
abbrev pub SentFramesAlone : {Frame Style Mb Picture Fault MessageFault : Type 0}
    → Coding Frame Style Mb Picture Fault MessageFault → Rules → Type 0
SentFramesAlone {Frame} {Style} {Mb} {Picture} {Fault} {MessageFault} coding rules =
    (pace : List ℕ → ℕ) (frames others : List Frame) (past : List Event) →
    ((i : ℕ) → i < sent_before past → slice_get frames i ≡ slice_get others i)
    → ideal coding rules pace frames past ≡ ideal coding rules pace others past
