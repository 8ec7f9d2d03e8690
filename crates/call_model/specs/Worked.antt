-- Calls of pictures of two samples, and what is read off them.
use Rattle.std.specs.Prelude.{◌≡◌, ℕ, zero, suc, ◌+◌, ◌-◌, ◌%◌, Bool, true, false, List, [], ◌∷◌, ◌++◌, length, map, reverse, replicate, slice_get, Option, Some, None}
use Rattle.std.specs.Option.{option_map_or}
use Rattle.std.specs.List.{sum}
use Rattle.call_model.specs.Coding.{Rules, Mark, Message, Shown}
use Rattle.call_model.specs.CodedPictures.{Coded}
use Rattle.call_model.specs.IdealCall.{Event, Send, Deliver, Play, Back, Call, call_from, encoded, ideal}
use Rattle.call_model.specs.Sending.{packets_at, SenderRun, Capture, Feedback, Reply, feedback_answer, sender_run}
use Rattle.call_model.specs.Refusals.{checked_call}
use Rattle.call_model.specs.Lawful.{IsRules, IsPace}
use Rattle.call_model.specs.OwnWindow.{with_own_window}
use Rattle.call_model.specs.Sound.{received}
use Rattle.call_model.specs.TwoStores.{Agree}
use Rattle.call_model.specs.Receiving.{Heard, heard, ReceiverEntry, Packet, PlayNext, receiver_run}
use Rattle.call_model.specs.JoinedRun.{SaidMessage, Joined, joined, new_receiver}
use Rattle.call_model.specs.SmallCoding.{Two, SmallStyle, SmallMb, Value, SmallFault, option_word, small_packet, small_read, small_message, small_read_message, small_pictures, small_decoding, small_encoding, small}

-- the pace, the frames and the events of a call, the oldest first
pub record Scene : Type 0 where
  pub rules : Rules
  pub pace : List ℕ → ℕ
  pub frames : List Two
  pub events : List Event

-- slots and lead as given, temporal references of eight bits, chains of at most 131, and messages
-- without flags
abbrev pub scene_rules : ℕ → ℕ → Rules
scene_rules slots lead = record { slots = slots; lead = lead; half = 128; chain = 131; mbs = 2; flags = 0 }

-- the pace that always answers 8
abbrev pub always_8 : List ℕ → ℕ
always_8 sizes = 8

-- a pace that follows the bytes of the last pictures
abbrev pub by_sizes : List ℕ → ℕ
by_sizes sizes = 1 + sum sizes % 31

-- a picture whose samples are the same
abbrev pub flat : ℕ → Two
flat value = record { left = value; right = value }

-- the ideal call
abbrev pub worked_call : Scene → Call SmallStyle SmallMb Two
worked_call scene = ideal small scene.rules scene.pace scene.frames (reverse scene.events)

-- both ends
abbrev pub scene_ends : Scene → Joined SmallStyle SmallMb Two
scene_ends scene = joined small scene.rules (new_receiver small scene.rules) scene.pace scene.frames
    (reverse scene.events)

-- each event is near
abbrev pub all_near : Scene → Bool
all_near scene =
    (checked_call small_pictures scene.rules (encoded small scene.rules scene.pace scene.frames)
    (length scene.frames) (reverse scene.events)).passed

-- a scene whose rules and pace meet what the laws ask
pub record IsScene (scene : Scene) : Type 0 where
  pub two : scene.rules.mbs ≡ 2
  pub rules : IsRules scene.rules
  pub pace : IsPace scene.pace

-- in each scene whose events are near, both ends do what the ideal call says
abbrev pub ScenesAgree : Type 0
ScenesAgree = (scene : Scene) → IsScene scene → all_near scene ≡ true
    → Agree small scene.rules (worked_call scene) (scene_ends scene)

-- of each picture the number of its reference
abbrev pub references : List (Coded SmallStyle SmallMb Two) → List (Option ℕ)
references coded = map (λ (x : Coded SmallStyle SmallMb Two). x.reference) coded

-- of each picture its depth
abbrev pub depths : List (Coded SmallStyle SmallMb Two) → List ℕ
depths coded = map (λ (x : Coded SmallStyle SmallMb Two). x.depth) coded

-- of each picture its quantiser
abbrev pub quants : List (Coded SmallStyle SmallMb Two) → List ℕ
quants coded = map (λ (x : Coded SmallStyle SmallMb Two). x.style.quant) coded

-- the marks of the plays, the oldest first
abbrev pub marks : List (Shown Two) → List Mark
marks shown = map (λ (x : Shown Two). x.mark) (reverse shown)

-- the pictures that they showed
abbrev pub pictures_shown : List (Shown Two) → List Two
pictures_shown shown = map (λ (x : Shown Two). x.picture) (reverse shown)

-- the bytes of messages
abbrev pub texts_of_said : List SaidMessage → List (List ℕ)
texts_of_said said = map (λ (told : SaidMessage). told.bytes) said

-- the receiver's answers to the deliveries among these events, both with the newest first
abbrev pub heard_in : Rules → (List ℕ → ℕ) → List Two → List Event → List (Heard SmallFault)
heard_in rules pace frames [] = []
heard_in rules pace frames (Deliver n j ∷ past) =
    let both = joined small rules (new_receiver small rules) pace frames past in
    option_map_or (λ bytes. heard small.decoding rules both.receiver (small.decoding.read bytes)
    ∷ []) (slice_get (packets_at small.encoding rules both.sender.coded n) j) []
    ++ heard_in rules pace frames past
heard_in rules pace frames (e ∷ past) = heard_in rules pace frames past

-- the receiver's answers, the oldest first
abbrev pub scene_answers : Scene → List (Heard SmallFault)
scene_answers scene = reverse (heard_in scene.rules scene.pace scene.frames (reverse scene.events))

-- the sender goes by the rules of the scene, and its receiver by rules of its own: the receiver's
-- answers to the deliveries among these events, both with the newest first
abbrev pub own_heard_in : Rules → Scene → List Event → List (Heard SmallFault)
own_heard_in own scene [] = []
own_heard_in own scene (Deliver n j ∷ past) =
    let source = encoded small scene.rules scene.pace scene.frames in
    let packets = packets_at small.encoding scene.rules in
    let c = call_from small_pictures own source past in
    option_map_or (λ bytes. heard small.decoding own (received small.decoding own source packets past)
    (small.decoding.read bytes) ∷ []) (slice_get (packets c.coded n) j) []
    ++ own_heard_in own scene past
own_heard_in own scene (e ∷ past) = own_heard_in own scene past

-- the answers of a receiver with this many slots and this lead, the oldest first
abbrev pub own_answers : ℕ → ℕ → Scene → List (Heard SmallFault)
own_answers slots lead scene = reverse (own_heard_in (with_own_window scene.rules slots lead) scene
    (reverse scene.events))

-- both slices of picture n are delivered
abbrev pub whole : ℕ → List Event
whole n = Deliver n 0 ∷ Deliver n 1 ∷ []

-- this many pictures are sent and played, and nothing of them arrives
abbrev pub lost : ℕ → List Event
lost zero = []
lost (suc count) = Send ∷ Play ∷ lost count

-- this many pictures, from n on, are sent, arrive and are played
abbrev pub seen_pictures : ℕ → ℕ → List Event
seen_pictures n zero = []
seen_pictures n (suc count) = Send ∷ whole n ++ Play ∷ seen_pictures (n + 1) count

-- this many pictures, from n on, are sent, arrive, are acknowledged by message n and its followers,
-- and are played
abbrev pub acknowledged : ℕ → ℕ → List Event
acknowledged n zero = []
acknowledged n (suc count) = Send ∷ whole n ++ Back n ∷ Play ∷ acknowledged (n + 1) count

-- picture 0 is acknowledged, 1 and 2 are lost, and 3 arrives
abbrev pub window_scene : Scene
window_scene = record {
  rules = scene_rules 4 1;
  pace = always_8;
  frames = replicate 4 (flat 100);
  events = seen_pictures 0 1 ++ Back 0 ∷ lost 2 ++ seen_pictures 3 1;
}

-- picture 0 is acknowledged, 1 is lost, and 2, which refers to 0, arrives
abbrev pub own_scene : Scene
own_scene = record {
  rules = scene_rules 4 1;
  pace = always_8;
  frames = replicate 3 (flat 100);
  events = seen_pictures 0 1 ++ Back 0 ∷ lost 1 ++ seen_pictures 2 1;
}

-- picture 0 arrives, 1 is lost, and its NACK comes back
abbrev pub offer_scene : Scene
offer_scene = record {
  rules = scene_rules 4 1;
  pace = always_8;
  frames = replicate 3 (flat 100);
  events = seen_pictures 0 1 ++ lost 1 ++ Back 1 ∷ seen_pictures 2 1;
}

-- picture 0 arrives, and four are lost
abbrev pub far_offer_scene : Scene
far_offer_scene = record {
  rules = scene_rules 4 1;
  pace = always_8;
  frames = replicate 5 (flat 100);
  events = seen_pictures 0 1 ++ lost 4;
}

-- all arrive and are acknowledged
abbrev pub chain_scene : Scene
chain_scene = record {
  rules = scene_rules 4 1;
  pace = always_8;
  frames = replicate 133 (flat 100);
  events = acknowledged 0 133;
}

-- the second half comes after the play
abbrev pub late_scene : Scene
late_scene = record {
  rules = scene_rules 4 1;
  pace = always_8;
  frames = flat 100 ∷ [];
  events = Send ∷ Deliver 0 0 ∷ Play ∷ Deliver 0 1 ∷ [];
}

-- each half comes twice, the second half first
abbrev pub shuffled_scene : Scene
shuffled_scene = record {
  rules = scene_rules 4 1;
  pace = always_8;
  frames = flat 100 ∷ [];
  events = Send ∷ Deliver 0 1 ∷ Deliver 0 1 ∷ Deliver 0 0 ∷ Deliver 0 0 ∷ Play ∷ [];
}

-- picture 0 is acknowledged, half of picture 1 comes, its NACK comes back, and picture 2 arrives
abbrev pub patched_scene : Scene
patched_scene = record {
  rules = scene_rules 4 1;
  pace = always_8;
  frames = flat 100 ∷ flat 50 ∷ flat 100 ∷ [];
  events = acknowledged 0 1 ++ Send ∷ Deliver 1 0 ∷ Play ∷ Back 1 ∷ seen_pictures 2 1;
}

-- pictures 0 to 3 arrive, 4 to 258 are lost, 259 arrives and is acknowledged, and 260 arrives
abbrev pub wrap_scene : Scene
wrap_scene = record {
  rules = scene_rules 5 1;
  pace = always_8;
  frames = replicate 3 (flat 100) ++ flat 50 ∷ replicate 257 (flat 100);
  events = seen_pictures 0 4 ++ lost 255 ++ acknowledged 259 1 ++ seen_pictures 260 1;
}

-- picture 1 arrives and 0 does not, whose NACK offers picture 1, above it, and comes back
abbrev pub newer_offer_scene : Scene
newer_offer_scene = record {
  rules = scene_rules 4 1;
  pace = always_8;
  frames = replicate 3 (flat 100);
  events = Send ∷ Send ∷ whole 1 ++ Play ∷ Back 1 ∷ Send ∷ Play ∷ whole 2 ++ Play ∷ [];
}

-- Three pictures are sent, 1 and 0 arrive, and the ACK of picture 0 comes back alone. Picture 3 is
-- sent, and arrives. Messages have this many flags.
abbrev pub flags_scene : ℕ → Scene
flags_scene flags = record {
  rules = record { slots = 6; lead = 2; half = 128; chain = 131; mbs = 2; flags = flags };
  pace = always_8;
  frames = replicate 4 (flat 100);
  events = Send ∷ Send ∷ Send ∷ whole 1 ++ whole 0 ++ Back 1 ∷ Send ∷ Play ∷ whole 3 ++ Play ∷ Play ∷ Play ∷ [];
}

-- this many flags, none of them set, or the first alone
abbrev pub no_flags : ℕ → List Bool
no_flags count = replicate count false

abbrev pub first_flag : ℕ → List Bool
first_flag count = true ∷ replicate (count - 1) false

-- the rules with temporal references of ten bits
abbrev pub wide_rules : ℕ → ℕ → Rules
wide_rules slots lead = record (scene_rules slots lead) { half = 512 }

-- picture 0 is acknowledged, 1 to 197 are lost, and 198 and 199 arrive
abbrev pub wide_window_scene : Scene
wide_window_scene = record {
  rules = wide_rules 200 1;
  pace = always_8;
  frames = replicate 200 (flat 100);
  events = acknowledged 0 1 ++ lost 197 ++ seen_pictures 198 2;
}

-- a packet of picture 0 comes after 511 plays
abbrev pub wide_late_scene : Scene
wide_late_scene = record {
  rules = wide_rules 4 1;
  pace = always_8;
  frames = replicate 511 (flat 100);
  events = lost 1 ++ seen_pictures 1 510 ++ Deliver 0 0 ∷ [];
}

-- all arrive and are acknowledged, with a pace that follows the sizes
abbrev pub paced_scene : Scene
paced_scene = record {
  rules = scene_rules 4 1;
  pace = by_sizes;
  frames = replicate 4 (flat 100);
  events = acknowledged 0 4;
}

-- the scenes of these calls meet what the laws ask
abbrev pub ScenesAreLawful : Type 0
ScenesAreLawful =
    IsScene window_scene × IsScene offer_scene × IsScene far_offer_scene × IsScene chain_scene × IsScene late_scene
    × IsScene shuffled_scene × IsScene patched_scene × IsScene wrap_scene × IsScene newer_offer_scene
    × IsScene (flags_scene 14) × IsScene (flags_scene 0)
    × IsScene wide_window_scene × IsScene wide_late_scene × IsScene paced_scene

-- a sender that captured this many pictures and then got these messages, the newest first
abbrev pub sender_after : ℕ → List Message → SenderRun SmallStyle SmallMb Two
sender_after count messages =
    sender_run small_pictures small_encoding (scene_rules 4 1) always_8
    (map (λ m. Feedback (small_message m)) messages ++ replicate count (Capture (flat 100)))

-- what it answers to a message
abbrev pub worked_reply : ℕ → Message → Reply SmallFault
worked_reply count message = feedback_answer (scene_rules 4 1) count (small_read_message (small_message message))

-- the bytes of one half of picture n, flat 100, with this depth in its header
abbrev pub half_packet : ℕ → Option ℕ → ℕ → ℕ → List ℕ
half_packet n reference depth place =
    small_packet (record {
      number = n;
      reference = reference;
      half = 128;
      style = record { depth = depth; quant = 8 };
    }) (record { first = place; mbs = Value 100 ∷ [] })

-- the bytes of both halves in one packet, and of one half with the other picture clock
abbrev pub whole_packet : ℕ → Option ℕ → ℕ → List ℕ
whole_packet n reference depth = n ∷ option_word reference ∷ 128 ∷ depth ∷ 8 ∷ 0 ∷ 100 ∷ 100 ∷ []

abbrev pub other_clock_packet : ℕ → ℕ → List ℕ
other_clock_packet n place =
    small_packet (record {
      number = n;
      reference = None;
      half = 512;
      style = record { depth = 0; quant = 8 };
    }) (record { first = place; mbs = Value 100 ∷ [] })

-- Picture 0 is complete, two were played, and the left half of picture 2 was taken; the newest
-- first.
abbrev pub half_taken : List ReceiverEntry
half_taken =
    Packet (half_packet 2 (Some 0) 1 0) ∷ PlayNext
    ∷ PlayNext ∷ Packet (half_packet 0 None 0 1) ∷ Packet (half_packet 0 None 0 0) ∷ []

-- what the receiver answers then to these bytes
abbrev pub then_heard : List ℕ → Heard SmallFault
then_heard bytes = heard small_decoding
    (scene_rules 4 1) (receiver_run small_decoding (scene_rules 4 1) half_taken) (small_read bytes)
