-- A picture whose packets come in time is the sender's. Lists have the newest first.
use Rattle.std.specs.Prelude.{◌≡◌, ℕ, ◌+◌, ◌≤◌, ◌⊎◌, true, List, [], ◌∷◌, ◌++◌, nat_lt, slice_get, Option, Some, None, if◌then◌else◌}
use Rattle.std.specs.Option.{option_map_or}
use Rattle.h263_types.specs.declared.blocks.Mb.{Mb}
use Rattle.h263_types.specs.Params.{IsParams}
use Rattle.h263_planes.specs.Picture.{Picture}
use Rattle.call_model.specs.Coding.{Decoding, Exact, Rules}
use Rattle.call_model.specs.CodedPictures.{Coded}
use Rattle.call_model.specs.IdealCall.{AllMayHappenFrom, Back, Deliver, Event, Play, Send, Source, call_from, is_full}
use Rattle.call_model.specs.Receiving.{Packet, PlayNext, ReceiverEntry}
use Rattle.call_model.specs.Sound.{AllSound, Packets}
use Rattle.call_decoding.specs.Rules.{rules_of}
use Rattle.call_decoding.specs.Styles.{Style}
use Rattle.receiver_end.specs.Decoding.{decoding}
use Rattle.receiver_end.specs.State.{plays_alone}
use Rattle.stream_numbers.specs.declared.packet.Packet.{Packet as Told}
use Rattle.stream_numbers.specs.declared.packet.Place.{Place}
use Rattle.stream_numbers.specs.Streams.{place_of}
use Rattle.timed_receiver.specs.Timed.{next_number_after}
use Rattle.stream_run.specs.Entries as run
use Rattle.session_runs.specs.Histories.{Config, History, history_entries, next_number_in}
use Rattle.session_laws.specs.Undisturbed.{play_in}

-- ---- what comes is given to the receiver

abbrev pub HasPacket : List ℕ → List ReceiverEntry → Type 0
HasPacket bytes [] = ⊥
HasPacket bytes (Packet other ∷ past) = (bytes ≡ other) ⊎ HasPacket bytes past
HasPacket bytes (PlayNext ∷ past) = HasPacket bytes past

-- A packet that came of the picture that is played next, by its place when it came, was given to the
-- receiver before that play, unless its picture was more than the lead after the next one then.
abbrev pub GivenInTime : Type 0
GivenInTime =
    (c : Config) (h : History) (later earlier : List run.StreamEntry) (packet : Told) (bytes : List ℕ) (at : ℕ)
    (place : Place)
    → h.past ≡ later ++ (run.Came packet bytes at ∷ earlier)
    → place_of c.rate (run.heard_of earlier) packet at ≡ Some place
    → place.number ≡ next_number_in c h
    → place.number ≤ next_number_after h.first (run.timed_of c.rate h.first c.lead earlier) + c.lead
    → HasPacket bytes (history_entries c h)

-- ---- and the play is the sender's

-- what the receiver of a call is given
module _ {Style Mb Picture Fault : Type 0} (decoding : Decoding Style Mb Picture Fault) (rules : Rules)
    (source : Source Style Mb Picture) (packets : Packets Style Mb Picture) where
  abbrev pub given_entries : List Event → List ReceiverEntry
  given_entries [] = []
  given_entries (Send ∷ past) = given_entries past
  given_entries (Deliver n j ∷ past) =
      option_map_or (λ bytes. Packet bytes ∷ given_entries past)
      (slice_get (packets (call_from decoding.pictures rules source past).coded n) j) (given_entries past)
  given_entries (Play ∷ past) = PlayNext ∷ given_entries past
  given_entries (Back k ∷ past) = given_entries past

-- Let a run's receiver have been given what that of a near call of a sender is given whose pictures are
-- sound. If all packets of the next picture came while it was open, its play is marked exact, and shows
-- what the sender has reconstructed.
abbrev pub RunsAreInTime : Type 0
RunsAreInTime =
    (c : Config) (h : History) (source : Source Style Mb Picture) (packets : Packets Style Mb Picture) (count : ℕ)
    (events : List Event) (x : Coded Style Mb Picture)
    → IsParams c.params
    → let call = call_from (decoding c.params.format).pictures (rules_of c.params) source events in
    AllMayHappenFrom (decoding c.params.format).pictures (rules_of c.params) source count events
    → AllSound (decoding c.params.format) (rules_of c.params) source packets events
    → history_entries c h ≡ given_entries (decoding c.params.format) (rules_of c.params) source packets events
    → slice_get call.coded (next_number_in c h) ≡ Some x
    → is_full call.coded call.arrivals (next_number_in c h) ≡ true
    → ((play_in c h).mark ≡ Exact) × ((play_in c h).picture ≡ x.picture)

-- ---- a run that takes one sender's packets alone

-- One thing after another, the newest first: the sender sends a picture, or a message is brought back to
-- it; the run takes the packet of the slice at a place of a picture; or it plays.
pub data CallStep : Type 0 where
  Sends : CallStep
  Brings : (message : ℕ) → CallStep
  Takes : (number place : ℕ) (packet : Told) (bytes : List ℕ) (now : ℕ) → CallStep
  Plays : (now : ℕ) → CallStep

-- what comes of the run
abbrev pub run_entries : List CallStep → List run.StreamEntry
run_entries [] = []
run_entries (Sends ∷ past) = run_entries past
run_entries (Brings message ∷ past) = run_entries past
run_entries (Takes number place packet bytes now ∷ past) = run.Came packet bytes now ∷ run_entries past
run_entries (Plays now ∷ past) = run.Shown now ∷ run_entries past

-- the number of its next picture
abbrev pub next_step_number : Config → ℕ → List CallStep → ℕ
next_step_number c first past = next_number_after first (run.timed_of c.rate first c.lead (run_entries past))

-- The events of the call, after those before the run began. A packet is delivered where its picture is
-- open.
abbrev pub call_events : Config → ℕ → List Event → List CallStep → List Event
call_events c first begun [] = begun
call_events c first begun (Sends ∷ past) = Send ∷ call_events c first begun past
call_events c first begun (Brings message ∷ past) = Back message ∷ call_events c first begun past
call_events c first begun (Takes number place packet bytes now ∷ past) =
    if nat_lt (next_step_number c first past + c.lead) number then call_events c first begun past
    else if nat_lt number (next_step_number c first past) then call_events c first begun past
    else Deliver number place ∷ call_events c first begun past
call_events c first begun (Plays now ∷ past) = Play ∷ call_events c first begun past

abbrev pub IsPlacedAt : ℕ → Option Place → Type 0
IsPlacedAt number None = ⊥
IsPlacedAt number (Some place) = place.number ≡ number

-- Each packet is the sender's, of this slice of this picture, and that is its place when it comes.
abbrev pub AreOfSender : Config → ℕ → Source Style Mb Picture → Packets Style Mb Picture → List Event → List CallStep
    → Type 0
AreOfSender c first source packets begun [] = Unit {0}
AreOfSender c first source packets begun (Sends ∷ past) = AreOfSender c first source packets begun past
AreOfSender c first source packets begun (Brings message ∷ past) = AreOfSender c first source packets begun past
AreOfSender c first source packets begun (Takes number place packet bytes now ∷ past) =
    (slice_get (packets (call_from (decoding c.params.format).pictures (rules_of c.params) source
    (call_events c first begun past)).coded number) place ≡ Some bytes)
    × IsPlacedAt number (place_of c.rate (run.heard_of (run_entries past)) packet now)
    × AreOfSender c first source packets begun past
AreOfSender c first source packets begun (Plays now ∷ past) = AreOfSender c first source packets begun past

-- Let all packets that a run takes be those of one sender, whose pictures are sound, in a near call. If
-- all packets of the next picture came while it was open, its play is marked exact, and shows what the
-- sender has reconstructed.
abbrev pub OfOneSender : Type 0
OfOneSender =
    (c : Config) (h : History) (source : Source Style Mb Picture) (packets : Packets Style Mb Picture) (count : ℕ)
    (begun : List Event) (steps : List CallStep) (x : Coded Style Mb Picture)
    → IsParams c.params
    → h.past ≡ run_entries steps
    → given_entries (decoding c.params.format) (rules_of c.params) source packets begun ≡ plays_alone h.first
    → AreOfSender c h.first source packets begun steps
    → let events = call_events c h.first begun steps in
    let call = call_from (decoding c.params.format).pictures (rules_of c.params) source events in
    AllMayHappenFrom (decoding c.params.format).pictures (rules_of c.params) source count events
    → AllSound (decoding c.params.format) (rules_of c.params) source packets events
    → slice_get call.coded (next_number_in c h) ≡ Some x
    → is_full call.coded call.arrivals (next_number_in c h) ≡ true
    → ((play_in c h).mark ≡ Exact) × ((play_in c h).picture ≡ x.picture)
