-- What a turn does, by what it answers.
use Rattle.std.specs.Prelude.{◌≡◌, ◌⊎◌, ℕ, ◌+◌, ◌-◌, ◌<◌, ◌≤◌, Bool, true, List, [], Option, Some, None, Result, Ok, Err, IfErr}
use Rattle.h263_types.specs.declared.params.Params.{Params}
use Rattle.h263_outside.specs.Desk.{Outside}
use Rattle.h263_outside.specs.declared.desk.Role.{Role}
use Rattle.h263_outside.specs.declared.desk.Role.TheVariants.{Video, Events, Report}
use Rattle.call_report.specs.declared.status.Status.{Status}
use Rattle.call_report.specs.declared.status.Status.TheVariants.{TraceRefused, WriteFault}
use Rattle.call_model.specs.IdealCall.{Event}
use Rattle.call_model.specs.Refusals.{Refusal}
use Rattle.call_command.specs.Call.{line_size}
use Rattle.call_command.specs.Refused.{fault_told}
use Rattle.call_command.specs.Standing.{HasTaken}
use Rattle.desk_program.specs.Ends.{Falls, Gains, GainsFronts, HasCause, IsStop, KeepsRoles, OnEnd, OnGoing, Tells, TurnGives, turn_status}
use Rattle.desk_program.specs.Run.{Step, left_after}
use Rattle.desk_program.specs.Texts.{no_texts, of, on}
use Rattle.group_call.specs.declared.broadcast.Broadcast.{Broadcast}
use Rattle.group_call.specs.declared.viewer.Viewer.{Viewer}
use Rattle.group_sender.specs.Holding.{Groups}
use Rattle.group_call.specs.Refused.{view_refusal}
use Rattle.group_call.specs.Viewing.{ViewerRun}
use Rattle.group_call.specs.Holding.{HoldsBroadcast, IsCasting, params_in, cast_period, sent_in}
use Rattle.group_command.specs.declared.room.Room.{Room}
use Rattle.group_command.specs.declared.event.OwnLine.{OwnLine}
use Rattle.group_command.specs.declared.line.GroupLine.{GroupLine}
use Rattle.group_command.specs.declared.line.GroupLine.TheVariants.{Quiet, ForAll, Of}
use Rattle.group_command.specs.Group.{GroupState, after_group_line, group_capture_step, counts_of_view, event_of, first_behind, group_step, group_line_step, room_may_read, pictures_at, run_after, texts_after, view_after}
use Rattle.group_command.specs.Standing.{AreViewing, RoomReady, RoomStands, RoomStandsAt, room_lines_left}

-- ---- a receiver that may be there

-- the line of its counts
abbrev pub counts_if : Option Viewer → Params → Groups → ℕ → ViewerRun → Role → List ℕ
counts_if None p run k view = no_texts
counts_if (Some viewer) p run k view = on Report (counts_of_view p run k view)

-- ---- an event

-- It was done: its texts are written, and it is then so. Or it was refused, and nothing was written; or
-- it was done, but its texts couldn't be written.
abbrev pub OwnEventGives : Result Unit Status → ℕ → Event → Option Refusal → Type 0 → (Role → List ℕ)
    → (Role → Option (List ℕ)) → (Role → Option (List ℕ)) → Type 0
OwnEventGives (Ok _) line e refusal after texts old new =
    (refusal ≡ None) × after × Gains texts old new
OwnEventGives (Err status) line e refusal after texts old new =
    ((r : Refusal) × (refusal ≡ Some r) × (status ≡ TraceRefused (fault_told line e r)) × (new ≡ old))
    ⊎ ((refusal ≡ None) × (status ≡ WriteFault) × GainsFronts texts old new)

-- what the line says of its receiver, by what that has done, where `Holds` says that the machine has
-- done so much
abbrev pub OwnGives : Result Unit Status → OwnLine → Params → Groups → ViewerRun
    → (Groups → ViewerRun → Type 0) → Broadcast → (Role → Option (List ℕ)) → (Role → Option (List ℕ)) → Type 0
OwnGives result said p run view Holds cast old new =
    let later = run_after p said.place run view said.event in
    OwnEventGives result said.line (event_of said.event) (view_refusal p run view (event_of said.event))
    (HoldsBroadcast p cast later × Holds later (view_after p said.place run view said.event))
    (texts_after p said.place run view said.event) old new

-- the line may be taken, by its numbers and those of the group
pub record MayTake (half : ℕ) (said : OwnLine) (cast : Broadcast) : Type 0 where
  pub half_few : half ≤ 512
  pub place : said.place < 3
  pub some : 1 ≤ said.line
  pub few : said.line ≤ 16777216
  pub sent : sent_in cast ≤ 1048576
  pub casting : IsCasting cast

-- what the receiver at a place needs of a desk
pub record OpensFor (place : ℕ) (attached : Role → Bool) : Type 0 where
  pub pictures : attached (pictures_at place) ≡ true
  pub report : attached Report ≡ true

-- what an event leaves of a group's side
pub record KeepsCast (old new : Broadcast) : Type 0 where
  pub params : params_in new ≡ params_in old
  pub sent : sent_in new ≡ sent_in old
  pub kept : cast_period new ≡ cast_period old
  pub casting : IsCasting old → IsCasting new

-- ---- a line that was read

-- A line was read, which has this number: the machine stood at the state before it, its reader of the
-- trace has passed it, and nothing else was done since the desk was the old one.
pub record IsGroupRead (m : Room) (line : ℕ) (now old : Outside) (s : GroupState)
    (inputs : Role → List ℕ) : Type 0 where
  pub stood : RoomStands m (after_group_line s (inputs Events))
      (left_after inputs (of Events (line_size (inputs Events))) Events)
  pub number : line ≡ s.lines + 1
  pub taken : HasTaken inputs old now

-- The machine takes a step after a line was read, and is then this one. `Begins` says at which desks
-- before the line, states and inputs the step begins. It never ends the call.
pub record IsLineTurn (m : Room) (result : Result Bool Status) (mid new : Outside)
    (Begins : Outside → GroupState → (Role → List ℕ) → Type 0)
    (step : GroupState → (Role → List ℕ) → Step GroupState) : Type 0 where
  pub gives : (old : Outside) (s : GroupState) (inputs : Role → List ℕ) → Begins old s inputs
      → TurnGives result (step s inputs) (RoomStandsAt m) room_may_read true inputs old new
  pub goes_on : OnEnd result ⊥
  pub ready : OnGoing result (RoomReady m new.attached)
  pub stop : IfErr result IsStop
  pub cause : HasCause (turn_status result) mid.faults new.faults
  pub rest : KeepsRoles mid new

-- the line says this
abbrev pub TakesGroupLine : Room → Room → ℕ → GroupLine → Result Bool Status → Outside → Outside → Type 0
TakesGroupLine m m_new line said result mid new =
    IsLineTurn m_new result mid new (IsGroupRead m line mid) (λ s inputs. group_line_step s inputs (Some said))

-- a receiver of which a line speaks is there
abbrev pub IsThere : ℕ → GroupLine → Type 0
IsThere count Quiet = Unit {0}
IsThere count ForAll = Unit {0}
IsThere count (Of k event) = k < count

-- the line of this number is the last that was read, and what it says of a receiver has room
pub record HasLine (m : Room) (line : ℕ) : Type 0 where
  pub number : line ≡ m.trace.lines
  pub some : 1 ≤ line
  pub viewing : AreViewing (sent_in m.cast) (line - 1) m.viewers

-- the frame is asked for that may be captured
pub record IsGroupAsked (m : Room) (line : ℕ) (now old : Outside) (s : GroupState)
    (inputs : Role → List ℕ) : Type 0 where
  pub read : IsGroupRead m line now old s inputs
  pub none : first_behind s.params s.run s.views ≡ None

abbrev pub TakesGroupFrame : Room → Room → ℕ → Result Bool Status → Outside → Outside → Type 0
TakesGroupFrame m m_new line result mid new =
    IsLineTurn m_new result mid new (IsGroupAsked m line mid) (λ s inputs. group_capture_step s (inputs Events)
    (inputs Video))

-- ---- a whole turn

pub record RoomTakesTurn (x y : Room) (result : Result Bool Status) (old new : Outside) : Type 0 where
  pub gives : (s : GroupState) (inputs : Role → List ℕ) → RoomStandsAt x s inputs → Tells old inputs
      → TurnGives result (group_step s inputs) (RoomStandsAt y) room_may_read (room_may_read s) inputs old new
  -- at the end the trace is read out
  pub whole : (s : GroupState) (inputs : Role → List ℕ) → RoomStandsAt x s inputs → Tells old inputs
      → OnEnd result (new.left Events ≡ Some [])
  pub falls : Falls result (room_lines_left x) (room_lines_left y)
  pub ready : OnGoing result (RoomReady y new.attached)
  pub stop : IfErr result IsStop
  pub cause : HasCause (turn_status result) old.faults new.faults
  pub rest : KeepsRoles old new
