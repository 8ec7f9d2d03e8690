-- What is kept between both ends of a way.
use Rattle.std.specs.Prelude.{◌≡◌, ℕ, ◌+◌, ◌*◌, ◌<◌, ◌≤◌, List, []}
use Rattle.h263_types.specs.declared.params.Params.{Params}
use Rattle.h263_types.specs.Sizes.{mbs_of}
use Rattle.h263_planes.specs.Picture.{Picture}
use Rattle.call_rings.specs.Keeping.{begun_of, most_of, ring_period, ring_room}
use Rattle.call_rings.specs.Messages.{said_of}
use Rattle.call_model.specs.IdealCall.{Event}
use Rattle.call_model.specs.JoinedRun.{AllMayHappenBoth, MayHappenBoth}
use Rattle.call_model.specs.Receiving.{ReceiverEntry}
use Rattle.call_decoding.specs.Rules.{rules_of}
use Rattle.call_encoding.specs.Frames.{Frame}
use Rattle.coded_call.specs.Coding.{coding}
use Rattle.h263_types.specs.Params.{IsParams}
use Rattle.receiver_end.specs.declared.kept.Kept.{Kept}
use Rattle.receiver_end.specs.State as receiver_end
use Rattle.one_way.specs.declared.network.Network.{Network}
use Rattle.one_way.specs.declared.tally.Tally.{Tally}
use Rattle.one_way.specs.declared.way.Way.{Way}
use Rattle.one_way.specs.Both.{AreJoined, IsStanding, State, both_after, steady}
use Rattle.one_way.specs.Counts.{AreCounted, total_of}
use Rattle.one_way.specs.Network.{HasMessages, HasPackets, HasReferences, IsKeeping}

-- ---- the words by which others speak of a way and of a network

-- how many pictures' packets a way keeps, and how many there may be of each picture
abbrev pub kept_in : Way → ℕ
kept_in way = ring_period way.packets

abbrev pub most_in : Way → ℕ
most_in way = most_of way.packets

-- of this many pictures this one is among the last that a way keeps
abbrev pub IsAmongLast : Way → ℕ → ℕ → Type 0
IsAmongLast way count n = (n < count) × (count ≤ n + kept_in way)

-- how many pictures were shown with each mark
abbrev pub tally_of : Way → Tally
tally_of way = way.tally

-- a network as a way, and how many messages were said over it
abbrev pub way_of : Network → Way
way_of network = network.way

abbrev pub said_in : Network → ℕ
said_in network = said_of network.messages

-- ---- what both ends have done

-- an event is in place and near after these
abbrev pub MayHappenNow : Params → List ReceiverEntry → List Frame → List Event → Event → Type 0
MayHappenNow p before frames past e =
    MayHappenBoth (coding p) (rules_of p) frames (both_after p (steady p) frames before past) e

-- Both ends have done these events, where these frames are there to be sent and the receiver had
-- heard these entries before. The events are near, the marks of the plays are counted, and the
-- packets and references of the pictures that were sent are kept.
pub record HoldsWay (p : Params) (way : Way) (sender : State) (receiver : Kept)
    (before : List ReceiverEntry) (frames : List Frame) (past : List Event) : Type 0 where
  pub joined : AreJoined p (steady p) sender receiver frames before past
  pub near : AllMayHappenBoth (coding p) (rules_of p) (receiver_end.run_of p before) (steady p) frames past
  pub tally : AreCounted (tally_of way) (both_after p (steady p) frames before past).plays
  pub packets : HasPackets p way.packets (both_after p (steady p) frames before past).sender.coded
  pub references : HasReferences way.references (both_after p (steady p) frames before past).sender.coded

-- and so are the messages that were said
pub record HoldsNetwork (p : Params) (network : Network) (sender : State) (receiver : Kept)
    (before : List ReceiverEntry) (frames : List Frame) (past : List Event) : Type 0 where
  pub way_holds : HoldsWay p (way_of network) sender receiver before frames past
  pub messages_are : HasMessages network.messages (both_after p (steady p) frames before past).said

-- the sender may code a picture with the quantiser of its parameters, and the way has room for it
pub record CanSend (way : Way) (sender : State) : Type 0 where
  pub in_range : IsParams sender.params
  pub standing : IsStanding (steady sender.params) sender
  pub quant_is : sender.pace.quant ≡ sender.params.quant
  pub room : ring_room way.packets ≡ 1200 * mbs_of sender.params.format
  pub most : most_in way ≡ mbs_of sender.params.format
  pub keeping : IsKeeping way.packets
  pub begun : begun_of way.packets ≡ sender.sent

-- only the marks were counted
pub record OnlyCounts (old new : Way) : Type 0 where
  pub others : new ≡ record old { tally = tally_of new }
  pub kept : kept_in new ≡ kept_in old
  pub can : (sender : State) → CanSend old sender → CanSend new sender

-- no message was said
pub record SaysNothing (old new : Network) : Type 0 where
  pub messages : new.messages ≡ old.messages
  pub said : said_in new ≡ said_in old

-- ---- before the first event

pub record IsNewWay (p : Params) (pictures : ℕ) (way : Way) : Type 0 where
  pub period : kept_in way ≡ pictures
  pub room : ring_room way.packets ≡ 1200 * mbs_of p.format
  pub most : most_in way ≡ mbs_of p.format
  pub begun : begun_of way.packets ≡ 0
  pub total : total_of (tally_of way) ≡ 0
  pub tally : AreCounted {Picture = Picture} (tally_of way) []
  pub packets : HasPackets p way.packets []
  pub references : HasReferences way.references []

pub record IsNewNetwork (p : Params) (pictures : ℕ) (network : Network) : Type 0 where
  pub way_is : IsNewWay p pictures (way_of network)
  pub said : said_in network ≡ 0
  pub messages_are : HasMessages network.messages []
