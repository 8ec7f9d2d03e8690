-- What a turn of a party does, by what it answers, on a desk where it is the first party.
use Rattle.std.specs.Prelude.{◌≡◌, ℕ, ◌+◌, Bool, true, List, [], Some, None, Result, IfErr}
use Rattle.h263_outside.specs.Desk.{Outside}
use Rattle.h263_outside.specs.declared.desk.Role.{Role}
use Rattle.h263_outside.specs.declared.desk.Role.TheVariants.{Video, Events, Pictures, Report}
use Rattle.y4m.specs.declared.fault.Y4mFault.{Y4mFault}
use Rattle.loss_trace.specs.Place.{TracePlace}
use Rattle.call_report.specs.declared.status.Status.{Status}
use Rattle.call_report.specs.declared.status.Status.TheVariants.{VideoRefused}
use Rattle.call_model.specs.IdealCall.{Send}
use Rattle.desk_program.specs.Run.{Step, left_after}
use Rattle.desk_program.specs.Ends.{Falls, HasCause, IsStop, KeepsRoles, OnEnd, OnGoing, Tells, TurnGives, turn_status}
use Rattle.desk_program.specs.Texts.{of}
use Rattle.call_command.specs.Call.{line_size}
use Rattle.call_command.specs.Standing.{HasTaken}
use Rattle.duplex_call.specs.declared.line.Party.{Party}
use Rattle.duplex_call.specs.declared.line.Party.TheVariants.{A}
use Rattle.duplex_ends.specs.Pair.{MayHappenToParty}
use Rattle.duplex_command.specs.declared.event.TraceLine.{TraceLine}
use Rattle.duplex_command.specs.declared.station.Station.{Station}
use Rattle.duplex_command.specs.declared.talk.Talk.{Talk}
use Rattle.duplex_command.specs.Duplex.{DuplexState, after_party_line, party_capture_step, duplex_step, party_event_step, talk_may_read, party_step, party_refusal}
use Rattle.duplex_command.specs.Standing.{StationsReady, StationsStand, TalkReady, TalkStands, talk_lines_left}

-- what is left of the trace after its first line
abbrev pub after_first : (Role → List ℕ) → List ℕ
after_first inputs = left_after inputs (of Events (line_size (inputs Events))) Events

-- A line was read, which has this number: the stations stood at the state before it, the reader of
-- the trace has passed it, and nothing else was done since the desk was the old one.
pub record IsPartyRead (x : Party) (own far : Station) (line : ℕ) (trace : TracePlace)
    (now old : Outside) (s : DuplexState) (inputs : Role → List ℕ) : Type 0 where
  pub stood : StationsStand x own far trace (after_party_line s (inputs Events)) (after_first inputs)
  pub number : line ≡ s.lines + 1
  pub taken : HasTaken inputs old now

-- A party takes a step after a line was read, and is then these stations, with so much room for a
-- frame. `Begins` says at which readers of the trace, desks before the line, states and inputs the
-- step begins. It never ends the call.
pub record IsPartyTurn (x : Party) (own far : Station) (result : Result Bool Status)
    (mid new : Outside) (room : ℕ)
    (Begins : TracePlace → Outside → DuplexState → (Role → List ℕ) → Type 0)
    (step : DuplexState → (Role → List ℕ) → Step DuplexState) : Type 0 where
  pub gives : (trace : TracePlace) (old : Outside) (s : DuplexState) (inputs : Role → List ℕ)
      → Begins trace old s inputs
      → TurnGives result (step s inputs)
      (λ next rest. StationsStand x own far trace next (rest Events))
      talk_may_read true inputs old new
  pub goes_on : OnEnd result ⊥
  pub ready : OnGoing result (StationsReady own far room)
  pub stop : IfErr result IsStop
  pub cause : HasCause (turn_status result) mid.faults new.faults
  pub rest : KeepsRoles mid new

-- the line says an event of this party, whose video and pictures stand in these roles
abbrev pub TakesEvent : (video pictures : Role) (refuses : Y4mFault → Status)
    → Station → Station → Station → Station → TraceLine → Result Bool Status → Outside → Outside → ℕ
    → Type 0
TakesEvent video pictures refuses own far own_new far_new said result mid new room =
    IsPartyTurn said.party own_new far_new result mid new room
    (λ trace. IsPartyRead said.party own far said.line trace mid)
    (λ s inputs. party_event_step video pictures refuses said.party s (inputs Events) inputs said.event)

-- the line says an event of either party, on the desk of both: a is the first one
abbrev pub TakesPartyLine : Station → Station → Station → Station → TraceLine → Result Bool Status
    → Outside → Outside → ℕ → Type 0
TakesPartyLine a b a_new b_new said result mid new room =
    IsPartyTurn A a_new b_new result mid new room
    (λ trace. IsPartyRead A a b said.line trace mid)
    (λ s inputs. party_step said.party s inputs said.event)

-- ---- a frame

-- the frame is asked for that may be captured
pub record IsPartyAsked (x : Party) (own far : Station) (line : ℕ) (trace : TracePlace)
    (now old : Outside) (s : DuplexState) (inputs : Role → List ℕ) : Type 0 where
  pub read : IsPartyRead x own far line trace now old s inputs
  pub none : party_refusal x s Send ≡ None

-- a frame may be captured at some point of the call of both parties
pub record MayCapture (own far : Station) (room : ℕ) : Type 0 where
  pub stations : StationsReady own far room
  pub may : MayHappenToParty own.ends far.ends Send

abbrev pub TakesPartyFrame : Party → Station → Station → Station → ℕ → Result Bool Status
    → Outside → Outside → ℕ → Type 0
TakesPartyFrame x own far own_new line result mid new room =
    IsPartyTurn x own_new far result mid new room
    (λ trace. IsPartyAsked x own far line trace mid)
    (λ s inputs. party_capture_step Video Pictures VideoRefused x s (inputs Events) (inputs Video))

-- ---- a whole turn

pub record TalkTakesTurn (x y : Talk) (result : Result Bool Status) (old new : Outside) : Type 0 where
  pub gives : (s : DuplexState) (inputs : Role → List ℕ) → TalkStands x s inputs → Tells old inputs
      → TurnGives result (duplex_step s inputs) (TalkStands y) talk_may_read (talk_may_read s) inputs old new
  -- at the end the trace is read out
  pub whole : (s : DuplexState) (inputs : Role → List ℕ) → TalkStands x s inputs → Tells old inputs
      → OnEnd result (new.left Events ≡ Some [])
  pub falls : Falls result (talk_lines_left x) (talk_lines_left y)
  pub ready : OnGoing result (TalkReady y new.attached)
  pub stop : IfErr result IsStop
  pub cause : HasCause (turn_status result) old.faults new.faults
  pub rest : KeepsRoles old new
