-- What the machine of a group's call keeps in mind, and what it is ready for.
use Rattle.std.specs.Prelude.{◌≡◌, ℕ, ◌+◌, ◌-◌, ◌*◌, ◌≤◌, ◌<◌, Bool, true, List, [], ◌∷◌, length, Option, Some, None, IfSome, is_some}
use Rattle.h263_types.specs.Clocks.{half_of, period_of}
use Rattle.h263_types.specs.declared.params.Params.{Params}
use Rattle.h263_types.specs.Params.{IsParams}
use Rattle.h263_types.specs.Sizes.{size_of_picture}
use Rattle.h263_outside.specs.declared.desk.Role.{Role}
use Rattle.h263_outside.specs.declared.desk.Role.TheVariants.{Video, Events, Report}
use Rattle.receiver_end.specs.State.{run_of}
use Rattle.one_way.specs.Counts.{total_of}
use Rattle.group_sender.specs.Holding.{Groups}
use Rattle.group_call.specs.declared.viewer.Viewer.{Viewer}
use Rattle.group_call.specs.Holding.{HoldsBroadcast, HoldsViewer, IsCasting, params_in, cast_period, sent_in, told_count}
use Rattle.group_call.specs.Viewing.{ViewerRun}
use Rattle.group_command.specs.declared.room.Room.{Room}
use Rattle.group_command.specs.declared.terms.GroupTerms.{GroupTerms}
use Rattle.group_command.specs.declared.viewers.Viewers.{Viewers}
use Rattle.group_command.specs.Group.{GroupState, pictures_at}

-- ---- the state

-- the receivers that are there
abbrev pub and_then : Option Viewer → List Viewer → List Viewer
and_then None viewers = viewers
and_then (Some viewer) viewers = viewer ∷ viewers

abbrev pub viewers_in : Viewers → List Viewer
viewers_in viewers = viewers.first ∷ and_then viewers.second (and_then viewers.third [])

-- a receiver has done what its run says, and no more than half a period of the group's pictures is on
-- the way to it
pub record Watches (p : Params) (run : Groups) (viewer : Viewer) (view : ViewerRun) : Type 0 where
  pub holds : HoldsViewer p viewer view
  pub near : length run.coded ≤ (run_of p view.entries).played + half_of p.clock

-- each does
abbrev pub AllWatch : Params → Groups → List Viewer → List ViewerRun → Type 0
AllWatch p run [] [] = Unit {0}
AllWatch p run (viewer ∷ viewers) (view ∷ views) = Watches p run viewer view × AllWatch p run viewers views
AllWatch p run [] (view ∷ views) = ⊥
AllWatch p run (viewer ∷ viewers) [] = ⊥

-- The machine stands at a state, where this much of the trace is left. After a last line without a
-- newline the trace is at its end.
pub record RoomStands (m : Room) (s : GroupState) (rest : List ℕ) : Type 0 where
  pub params : s.params ≡ m.params
  pub place : s.at ≡ m.video.at
  pub more : s.more ≡ m.video.more
  pub lines : s.lines ≡ m.trace.lines
  pub ended : s.ended ≡ m.trace.ended
  pub over : m.trace.ended ≡ true → rest ≡ []
  pub cast : HoldsBroadcast s.params m.cast s.run
  pub views : AllWatch s.params s.run (viewers_in m.viewers) s.views

abbrev pub RoomStandsAt : Room → GroupState → (Role → List ℕ) → Type 0
RoomStandsAt m s inputs = RoomStands m s (inputs Events)

-- how many lines may still come
abbrev pub room_lines_left : Room → ℕ
room_lines_left m = 16777216 - m.trace.lines

-- ---- what it is ready for

-- what it needs of a desk
pub record GroupOpens (receivers : ℕ) (attached : Role → Bool) : Type 0 where
  pub video : attached Video ≡ true
  pub events : attached Events ≡ true
  pub report : attached Report ≡ true
  pub pictures : (k : ℕ) → k < receivers → attached (pictures_at k) ≡ true

pub record GroupMayBegin (t : GroupTerms) (attached : Role → Bool) : Type 0 where
  pub params : IsParams t.params
  pub some : 1 ≤ t.receivers
  pub few : t.receivers ≤ 3
  pub opens : GroupOpens t.receivers attached

-- A receiver has played none of the pictures that weren't sent, of which there are so many that were;
-- its marks are those of its plays. A line makes 400 messages at most.
pub record IsViewing (sent lines : ℕ) (viewer : Viewer) : Type 0 where
  pub played : viewer.receiver.played ≤ sent
  pub counted : total_of viewer.tally ≡ viewer.receiver.played
  pub told : told_count viewer ≤ 400 * lines

-- so it is of all, and there is no third one without a second one
pub record AreViewing (sent lines : ℕ) (viewers : Viewers) : Type 0 where
  pub first : IsViewing sent lines viewers.first
  pub second : IfSome viewers.second (IsViewing sent lines)
  pub third : IfSome viewers.third (IsViewing sent lines)
  pub in_order : is_some viewers.third ≡ true → is_some viewers.second ≡ true

pub record RoomReady (m : Room) (attached : Role → Bool) : Type 0 where
  pub opens : GroupOpens (length (viewers_in m.viewers)) attached
  pub in_range : IsParams m.params
  pub format : m.video.format ≡ m.params.format
  pub frame : length m.frame.items ≡ size_of_picture m.params.format
  pub params : params_in m.cast ≡ m.params
  pub period : cast_period m.cast ≡ period_of m.params.clock
  pub casting : IsCasting m.cast
  pub sent : sent_in m.cast + m.video.more ≡ 1048576
  pub few : m.trace.lines ≤ 16777216
  pub viewing : AreViewing (sent_in m.cast) m.trace.lines m.viewers
