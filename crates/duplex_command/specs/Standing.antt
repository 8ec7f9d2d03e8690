-- What the machine of a call of two parties keeps in mind, and what it is ready for.
use Rattle.std.specs.Prelude.{◌≡◌, ℕ, ◌+◌, ◌-◌, ◌≤◌, Bool, true, List, [], length}
use Rattle.h263_types.specs.Sizes.{size_of_picture}
use Rattle.h263_outside.specs.declared.desk.Role.{Role}
use Rattle.h263_outside.specs.declared.desk.Role.TheVariants.{Video, Events, Pictures, Report, Video2, Pictures2}
use Rattle.loss_trace.specs.Place.{TracePlace}
use Rattle.duplex_call.specs.declared.line.Party.{Party}
use Rattle.duplex_call.specs.declared.line.Party.TheVariants.{A}
use Rattle.duplex_call.specs.Duplex.{other}
use Rattle.duplex_ends.specs.Pair.{AreInCall, HoldsPair}
use Rattle.y4m.specs.Place.{Y4mPlace}
use Rattle.duplex_command.specs.declared.station.Station.{Station}
use Rattle.duplex_command.specs.declared.talk.Talk.{Talk}
use Rattle.duplex_command.specs.Duplex.{DuplexState, VideoPlace, video_place_of}

-- ---- the state

abbrev pub place_in_video : Y4mPlace → VideoPlace
place_in_video video = record { at = video.at; more = video.more }

-- A party, the other one and the trace stand at a state, where this much of the trace is left: the
-- places of both videos are those of the state, and the ends have done what its ways have met.
-- After a last line without a newline the trace is at its end.
pub record StationsStand (x : Party) (own far : Station) (trace : TracePlace) (s : DuplexState)
    (rest : List ℕ) : Type 0 where
  pub own_place : video_place_of x s ≡ place_in_video own.video
  pub far_place : video_place_of (other x) s ≡ place_in_video far.video
  pub lines : s.lines ≡ trace.lines
  pub ended : s.ended ≡ trace.ended
  pub over : trace.ended ≡ true → rest ≡ []
  pub holds : HoldsPair s.params x own.ends far.ends s.ways

abbrev pub TalkStands : Talk → DuplexState → (Role → List ℕ) → Type 0
TalkStands m s inputs = StationsStand A m.a m.b m.trace s (inputs Events)

-- how many lines may still come
abbrev pub talk_lines_left : Talk → ℕ
talk_lines_left m = 16777216 - m.trace.lines

-- ---- what it is ready for

-- the video of a party is that of its pictures, a frame of it has room, and so many may still come
-- as may still be sent
pub record StationReady (station : Station) (room : ℕ) : Type 0 where
  pub format : station.video.format ≡ station.ends.params.format
  pub frame : size_of_picture station.ends.params.format ≤ room
  pub sent : station.ends.sender.sent + station.video.more ≡ 1048576

pub record StationsReady (own far : Station) (room : ℕ) : Type 0 where
  pub own_ready : StationReady own room
  pub far_ready : StationReady far room
  pub ends : AreInCall own.ends far.ends

pub record DuplexOpens (attached : Role → Bool) : Type 0 where
  pub video : attached Video ≡ true
  pub video2 : attached Video2 ≡ true
  pub events : attached Events ≡ true
  pub pictures : attached Pictures ≡ true
  pub pictures2 : attached Pictures2 ≡ true
  pub report : attached Report ≡ true

pub record TalkReady (m : Talk) (attached : Role → Bool) : Type 0 where
  pub opens : DuplexOpens attached
  pub stations : StationsReady m.a m.b (length m.frame.items)

-- what a party needs of a desk where its video and pictures stand in these roles
pub record PartyOpens (video pictures : Role) (attached : Role → Bool) : Type 0 where
  pub video_opens : attached video ≡ true
  pub pictures_opens : attached pictures ≡ true
  pub report_opens : attached Report ≡ true
