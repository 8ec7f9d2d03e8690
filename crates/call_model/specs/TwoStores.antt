-- That the two ends do what the ideal call says, and the statements that carry it.
use Rattle.std.specs.Prelude.{◌≡◌, ℕ, ◌+◌, ◌%◌, ◌<◌, ◌≤◌, ⊤, true, List, [], ◌∷◌, length, map, slice_get, Some}
use Rattle.call_model.specs.Coding.{Rules, window, period, Message, Ack, Decoding, Coding}
use Rattle.call_model.specs.CodedPictures.{Coded, is_among}
use Rattle.call_model.specs.IdealCall.{NumberedMessage, Got, Lost, about, Arrival, Call, is_full}
use Rattle.call_model.specs.Sending.{header_of}
use Rattle.call_model.specs.Receiving.{TakenSlice, is_complete, decoded, nack}
use Rattle.call_model.specs.JoinedRun.{SaidMessage, Joined}

-- the message as it travels
abbrev pub travelling : Rules → NumberedMessage → Message
travelling rules (Got n flags) = Ack (n % period rules) flags
travelling rules (Lost n offered flags) = nack rules n offered flags

-- the message with its bytes, where messages are so written
abbrev pub told_of : (Message → List ℕ) → Rules → NumberedMessage → SaidMessage
told_of write rules note = record { about = about note; bytes = write (travelling rules note) }

-- The two ends have done what the ideal call says: the sender's pictures with their references, the
-- numbers that it knows, the messages that the receiver said, and each play with its mark.
pub record Agree {Frame Style Mb Picture Fault MessageFault : Type 0}
    (coding : Coding Frame Style Mb Picture Fault MessageFault)
    (rules : Rules) (c : Call Style Mb Picture) (both : Joined Style Mb Picture) : Type 0 where
  pub pictures : both.sender.coded ≡ c.coded
  pub known : both.sender.known ≡ c.known
  pub played : both.receiver.played ≡ c.played
  pub messages : both.said ≡ map (told_of coding.encoding.write_message rules) c.said
  pub plays : both.plays ≡ c.plays

-- the receiver took this slice for this arrival: the slice of that place, with the header of its
-- own picture
pub record IsTakenFor {Style Mb Picture : Type 0} (rules : Rules)
    (coded : List (Coded Style Mb Picture)) (a : Arrival) (t : TakenSlice Style Mb) : Type 0 where
  pub number : t.number ≡ a.number
  pub picture : Coded Style Mb Picture
  pub is_coded : slice_get coded a.number ≡ Some picture
  pub slice : slice_get picture.slices a.place ≡ Some t.piece.slice
  pub header : t.piece.header ≡ header_of rules a.number picture

module _ {Style Mb Picture : Type 0} (rules : Rules) where
  -- the sender is ahead of the play, by half a period at most
  abbrev pub CountsAreNear : Call Style Mb Picture → Type 0
  CountsAreNear c = (c.played ≤ length c.coded) × (length c.coded ≤ c.played + rules.half)

  -- the slices that the receiver took are those that arrived in time, one for one
  abbrev pub MatchArrivals : List (Coded Style Mb Picture) → List Arrival → List (TakenSlice Style Mb) → Type 0
  MatchArrivals coded [] [] = ⊤
  MatchArrivals coded (a ∷ arrivals) (t ∷ taken) = IsTakenFor rules coded a t × MatchArrivals coded arrivals taken
  MatchArrivals coded [] (t ∷ taken) = ⊥
  MatchArrivals coded (a ∷ arrivals) [] = ⊥

  -- the complete pictures are the full ones
  abbrev pub CompleteAreFull : Call Style Mb Picture → List (TakenSlice Style Mb) → Type 0
  CompleteAreFull c taken = (n : ℕ) → is_complete rules.mbs taken n ≡ is_full c.coded c.arrivals n

  -- what the sender knows to be full is full, and so was sent
  abbrev pub KnownAreFull : Call Style Mb Picture → Type 0
  KnownAreFull c = (n : ℕ) → is_among c.known n ≡ true → (n < length c.coded) × (is_full c.coded c.arrivals n ≡ true)

  -- the reference of a picture is an earlier one in the window, and full
  abbrev pub ReferencesAreFull : Call Style Mb Picture → Type 0
  ReferencesAreFull c =
      (n m : ℕ) (x : Coded Style Mb Picture) → slice_get c.coded n ≡ Some x → x.reference ≡ Some m
      → (m < n) × (n ≤ m + window rules) × (is_full c.coded c.arrivals m ≡ true)

module _ {Style Mb Picture Fault : Type 0} (decoding : Decoding Style Mb Picture Fault) (rules : Rules) where
  -- the receiver's picture of a full number is what the sender reconstructed
  abbrev pub PicturesAreThose : Call Style Mb Picture → List (TakenSlice Style Mb) → Type 0
  PicturesAreThose c taken =
      (n : ℕ) (x : Coded Style Mb Picture) → slice_get c.coded n ≡ Some x → is_full c.coded c.arrivals n ≡ true
      → decoded decoding rules taken n ≡ x.picture

module _ {Frame Style Mb Picture Fault MessageFault : Type 0}
    (coding : Coding Frame Style Mb Picture Fault MessageFault) (rules : Rules) where
  -- The two ends have done what the ideal call says, and the six statements hold that carry this
  -- from event to event.
  pub record EndsFollow (c : Call Style Mb Picture) (both : Joined Style Mb Picture) : Type 0 where
    pub agree : Agree coding rules c both
    pub counts : CountsAreNear rules c
    pub complete : CompleteAreFull rules c both.receiver.taken
    pub pictures : PicturesAreThose coding.decoding rules c both.receiver.taken
    pub taken : MatchArrivals rules c.coded c.arrivals both.receiver.taken
    pub known : KnownAreFull rules c
    pub references : ReferencesAreFull rules c
