-- What the parts of a group's call stand for.
use Rattle.std.specs.Prelude.{◌≡◌, ℕ, ◌+◌, ◌*◌, ◌<◌, ◌≤◌}
use Rattle.h263_types.specs.Params.{IsParams}
use Rattle.h263_types.specs.Sizes.{mbs_of}
use Rattle.h263_types.specs.declared.params.Params.{Params}
use Rattle.call_rings.specs.Keeping.{begun_of, most_of, ring_period, ring_room}
use Rattle.call_rings.specs.Messages.{said_of}
use Rattle.group_sender.specs.Holding.{Groups, HoldsGroup}
use Rattle.receiver_end.specs.State.{Stands}
use Rattle.one_way.specs.Counts.{AreCounted}
use Rattle.one_way.specs.Network.{HasMessages, HasPackets, HasReferences}
use Rattle.group_call.specs.declared.broadcast.Broadcast.{Broadcast}
use Rattle.group_call.specs.declared.viewer.Viewer.{Viewer}
use Rattle.group_call.specs.Viewing.{ViewerRun}

-- ---- the sender's side

-- how many pictures' packets are kept, and how many were sent
abbrev pub cast_period : Broadcast → ℕ
cast_period cast = ring_period cast.packets

abbrev pub sent_in : Broadcast → ℕ
sent_in cast = cast.group.sender.sent

abbrev pub params_in : Broadcast → Params
params_in cast = cast.group.params

-- how many packets there may be of a picture
abbrev pub places_in : Broadcast → ℕ
places_in cast = most_of cast.packets

-- The group holds this run, with the quantiser of these parameters, and the packets and references of
-- its last pictures are kept.
pub record HoldsBroadcast (p : Params) (cast : Broadcast) (run : Groups) : Type 0 where
  pub in_range : IsParams p
  pub params : cast.group.params ≡ p
  pub quant : cast.group.sender.pace.quant ≡ p.quant
  pub holds : HoldsGroup cast.group run
  pub packets : HasPackets p cast.packets run.coded
  pub references : HasReferences cast.references run.coded
  pub room : ring_room cast.packets ≡ 1200 * mbs_of p.format
  pub most : most_of cast.packets ≡ mbs_of p.format
  pub begun : begun_of cast.packets ≡ cast.group.sender.sent

-- so it does for some run
pub record IsCasting (cast : Broadcast) : Type 0 where
  pub params : Params
  pub run : Groups
  pub holds : HoldsBroadcast params cast run

-- of this many pictures this one is among the last whose packets are kept
abbrev pub IsCast : Broadcast → ℕ → ℕ → Type 0
IsCast cast count n = (n < count) × (count ≤ n + cast_period cast)

-- ---- a receiver's side

-- how many messages it said
abbrev pub told_count : Viewer → ℕ
told_count viewer = said_of viewer.messages

-- The receiver has done this: what it said is kept, and the marks of its plays are counted.
pub record HoldsViewer (p : Params) (viewer : Viewer) (view : ViewerRun) : Type 0 where
  pub params : viewer.receiver.params ≡ p
  pub receives : Stands viewer.receiver view.entries
  pub messages : HasMessages viewer.messages view.told
  pub marks : AreCounted viewer.tally view.plays
