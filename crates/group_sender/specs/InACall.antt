-- A group as one of its receivers lives it, from its joining on.
use Rattle.std.specs.Prelude.{◌≡◌, ℕ, zero, suc, ◌<◌, ◌≤◌, ⊤, nat_lt, List, [], ◌∷◌, length, slice_get, Some, None, if◌then◌else◌}
use Rattle.call_model.specs.Coding.{Rules, Coding, pictures_of}
use Rattle.call_model.specs.CodedPictures.{Coded, capture}
use Rattle.call_model.specs.IdealCall.{Event, Send, Deliver, Play, Back, NumberedMessage, Source, AllMayHappenFrom, call_from}
use Rattle.call_model.specs.Lawful.{IsPace}
use Rattle.call_model.specs.Sending.{packets_at}
use Rattle.call_model.specs.Sound.{FollowsTheCall}
use Rattle.call_model.specs.TwoStores.{travelling}
use Rattle.group_sender.specs.Running.{GroupEntry, CaptureAll, FeedbackOf, JoinsAt, LeavesAt, group_run}

-- What happens: something is done to the group that isn't this receiver's own (a picture is coded,
-- or another receiver says something, joins or leaves); the slice at a place of a picture arrives at
-- this receiver; it plays its next picture; a message of its, by its place among those that it said,
-- comes back to the group as these bytes.
pub data Lived (Frame : Type 0) : Type 0 where
  Done : GroupEntry Frame → Lived Frame
  Arrives : (number place : ℕ) → Lived Frame
  Plays : Lived Frame
  ComesBack : (message : ℕ) (bytes : List ℕ) → Lived Frame

-- the entry isn't about the receiver at place k, whatever else it is
abbrev pub IsOthers : {Frame : Type 0} → ℕ → GroupEntry Frame → Type 0
IsOthers k (CaptureAll pace frame) = IsPace pace
IsOthers k (FeedbackOf j bytes) = j ≡ k → ⊥
IsOthers k (JoinsAt j) = j ≡ k → ⊥
IsOthers k (LeavesAt j) = j ≡ k → ⊥

-- what was done to the group, in which the receiver joined at place k after these entries
abbrev pub group_entries : {Frame : Type 0} → ℕ → List (GroupEntry Frame) → List (Lived Frame) → List (GroupEntry Frame)
group_entries k before [] = JoinsAt k ∷ before
group_entries k before (Done entry ∷ past) = entry ∷ group_entries k before past
group_entries k before (Arrives n j ∷ past) = group_entries k before past
group_entries k before (Plays ∷ past) = group_entries k before past
group_entries k before (ComesBack i bytes ∷ past) = FeedbackOf k bytes ∷ group_entries k before past

-- a receiver that joins where this many pictures were coded has played as many, and got nothing of
-- them
abbrev pub began_at : ℕ → List Event
began_at zero = []
began_at (suc n) = Play ∷ Send ∷ began_at n

-- a picture that is coded is sent in the receiver's call too
abbrev pub with_entry : {Frame : Type 0} → GroupEntry Frame → List Event → List Event
with_entry (CaptureAll pace frame) past = Send ∷ past
with_entry (FeedbackOf j bytes) past = past
with_entry (JoinsAt j) past = past
with_entry (LeavesAt j) past = past

-- the events of the receiver's call, where this many pictures were coded before it joined
abbrev pub lived_events : {Frame : Type 0} → ℕ → List (Lived Frame) → List Event
lived_events joined [] = began_at joined
lived_events joined (Done entry ∷ past) = with_entry entry (lived_events joined past)
lived_events joined (Arrives n j ∷ past) = Deliver n j ∷ lived_events joined past
lived_events joined (Plays ∷ past) = Play ∷ lived_events joined past
lived_events joined (ComesBack i bytes ∷ past) = Back i ∷ lived_events joined past

-- The pictures of its call are the group's, from its joining on. In place of those before, of which
-- it gets nothing, any one stands that is coded by itself.
abbrev pub lived_source : {Style Mb Picture : Type 0} → ℕ → Coded Style Mb Picture → List (Coded Style Mb Picture)
    → Source Style Mb Picture
lived_source joined blank coded c =
    if nat_lt (length c.coded) joined then Some blank else slice_get coded (length c.coded)

module _ {Frame Style Mb Picture Fault MessageFault : Type 0}
    (coding : Coding Frame Style Mb Picture Fault MessageFault) (rules : Rules) where
  module _ (k joined : ℕ) (source : Source Style Mb Picture) where
    -- What isn't the receiver's own is others'; what arrives is of pictures from its joining on, and
    -- each message that comes back is one that it said, with its bytes. What others say may be
    -- anything.
    abbrev pub AreLived : List (Lived Frame) → Type 0
    AreLived [] = ⊤
    AreLived (Done entry ∷ past) = IsOthers k entry × AreLived past
    AreLived (Arrives n j ∷ past) = (joined ≤ n) × AreLived past
    AreLived (Plays ∷ past) = AreLived past
    AreLived (ComesBack i bytes ∷ past) =
        ((note : NumberedMessage)
        → slice_get (call_from (pictures_of coding) rules source (lived_events joined past)).said i ≡ Some note
        → bytes ≡ coding.encoding.write_message (travelling rules note)) × AreLived past

  -- The receiver follows its call: it answers, plays and says as the call does. And the call's
  -- pictures, from the joining on, are the group's.
  pub record FollowsTheGroup (joined count : ℕ) (source : Source Style Mb Picture)
      (coded : List (Coded Style Mb Picture)) (past : List Event) : Type 0 where
    pub follows : FollowsTheCall coding.decoding rules source (λ _ n. packets_at coding.encoding rules coded n) count
        past
    pub own : (n : ℕ) → joined ≤ n
        → slice_get (call_from (pictures_of coding) rules source past).coded n ≡ slice_get coded n

  -- For each receiver, from its joining on, in any call that is near for it.
  abbrev pub GroupIsFollowed : Type 0
  GroupIsFollowed = (k : ℕ) (before : List (GroupEntry Frame)) (lived : List (Lived Frame)) (frame : Frame)
      (quant count : ℕ) →
      let pictures = pictures_of coding in
      let first = group_run pictures coding.encoding rules before in
      let joined = length first.coded in
      let coded = (group_run pictures coding.encoding rules (group_entries k before lived)).coded in
      let source = lived_source joined (capture pictures coding.encoding quant frame [] None) coded in
      k < length first.parties → (0 < quant) × (quant < 32) → AreLived k joined source lived
      → AllMayHappenFrom pictures rules source count (lived_events joined lived)
      → FollowsTheGroup joined count source coded (lived_events joined lived)
