-- What a turn does, by what it answers.
use Rattle.std.specs.Prelude.{◌≡◌, ℕ, ◌+◌, Bool, true, false, List, [], Some, None, Result, Option, IfErr, OnErr}
use Rattle.h263_outside.specs.Desk.{Outside}
use Rattle.h263_outside.specs.declared.desk.Role.{Role}
use Rattle.h263_outside.specs.declared.desk.Role.TheVariants.{Video, Events}
use Rattle.h263_types.specs.declared.pace.FixedPace.{FixedPace}
use Rattle.loss_trace.specs.declared.event.Event.{Event as Line}
use Rattle.loss_trace.specs.declared.event.Event.TheVariants as says
use Rattle.call_report.specs.declared.status.Status.{Status}
use Rattle.call_report.specs.declared.status.Status.TheVariants.{Ok as Fine, OutOfMemory, Usage, ReadFault, WriteFault, VideoRefused, TraceRefused, LogRefused, OpenFault, Video2Refused}
use Rattle.call_model.specs.IdealCall.{Event, Send, Deliver, Play, Back}
use Rattle.call_model.specs.Refusals.{Refusal}
use Rattle.desk_program.specs.Run.{Step}
use Rattle.desk_program.specs.Ends.{Falls, HasCause, IsStop, KeepsRoles, OnEnd, OnGoing, OnSettled, Tells, TurnGives, turn_status}
use Rattle.one_way.specs.declared.refusals.EventRefusal.{EventRefusal as Told}
use Rattle.one_way.specs.Refused.{IsAllowed}
use Rattle.call_command.specs.declared.terms.Terms.{Terms}
use Rattle.call_command.specs.declared.world.World.{World}
use Rattle.call_command.specs.Call.{CallState, by_ends, capture_step, event_step, may_read, refusal_at, talk_step}
use Rattle.call_command.specs.Standing.{EndsStand, HasTaken, CallParts, PartsReady, PartsStand, StoodBefore, more_of, call_parts, source_of}

-- what stays for the whole call: what is asked for, what is lent, by name, and the sender's pace
pub record Names : Type 0 where
  pub terms : Terms
  pub video : ℕ
  pub sender : ℕ
  pub receiver : ℕ
  pub pace : FixedPace

abbrev pub names_of : World → Names
names_of m =
    record {
      terms = m.terms;
      video = m.video.ghost_name;
      sender = m.sender.ghost_name;
      receiver = m.receiver.ghost_name;
      pace = m.sender.now.pace;
    }

-- With what a call can end. It reads no log and no second video, and over its plain trace there is
-- no trace to be refused.
abbrev pub IsAnswer : (plain : Bool) → Status → Type 0
IsAnswer plain Fine = Unit {0}
IsAnswer plain OutOfMemory = Unit {0}
IsAnswer plain ReadFault = Unit {0}
IsAnswer plain WriteFault = Unit {0}
IsAnswer plain (VideoRefused fault) = Unit {0}
IsAnswer plain (TraceRefused fault) = plain ≡ false
IsAnswer plain Usage = ⊥
IsAnswer plain (LogRefused fault) = ⊥
IsAnswer plain (OpenFault role) = ⊥
IsAnswer plain (Video2Refused fault) = ⊥

-- both ends stand for what they stood for
abbrev pub LeavesEnds : World → World → Type 0
LeavesEnds x y =
    (s : CallState) → EndsStand x.terms x.sender.now x.receiver.now s
    → EndsStand y.terms y.sender.now y.receiver.now s

-- ---- a turn

-- What a turn does from one world to another, by what it answers. `Begins` says at which states and
-- with which inputs it begins, over a desk that may be one before some reads of this turn; then it
-- takes this step. So many turns might still come before it, and `reads` says whether it may read.
pub record IsTurn (x y : World) (result : Result Bool Status) (mid new : Outside)
    (Begins : Outside → CallState → (Role → List ℕ) → Type 0)
    (step : CallState → (Role → List ℕ) → Step CallState) (reads : CallState → Bool) (more : ℕ) : Type 0 where
  pub gives : (old : Outside) (s : CallState) (inputs : Role → List ℕ) → Begins old s inputs
      → TurnGives result (step s inputs) (PartsStand (call_parts y)) may_read (reads s) inputs old new
  -- at the end the input is read out that ends the call
  pub whole : (old : Outside) (s : CallState) (inputs : Role → List ℕ) → Begins old s inputs
      → OnEnd result (new.left (source_of x.terms) ≡ Some [])
  -- at the end, and where it refuses, both ends stand for what they had done before it
  pub keeps : OnSettled result (LeavesEnds x y)
  pub lasts : names_of y ≡ names_of x
  pub falls : Falls result more (more_of (call_parts y))
  pub ready : OnGoing result (PartsReady (call_parts y) new.attached)
  pub answers : IsAnswer x.terms.plain (turn_status result)
  pub stop : IfErr result IsStop
  pub cause : HasCause (turn_status result) mid.faults new.faults
  pub rest : KeepsRoles mid new

-- a whole turn begins where the parts stand
pub record IsTurnBegun (x : CallParts) (now old : Outside) (s : CallState) (inputs : Role → List ℕ) : Type 0 where
  pub stands : PartsStand x s inputs
  pub told : Tells now inputs
  pub same : old ≡ now

abbrev pub TakesTurn : World → World → Result Bool Status → Outside → Outside → Type 0
TakesTurn x y result old new =
    IsTurn x y result old new (IsTurnBegun (call_parts x) old) talk_step may_read (more_of (call_parts x))

-- or after its line was read, which has this number
pub record IsRead (x : CallParts) (line : ℕ) (now old : Outside) (s : CallState) (inputs : Role → List ℕ) : Type 0 where
  pub stood : StoodBefore x s inputs
  pub number : line ≡ s.lines + 1
  pub taken : HasTaken inputs old now

abbrev pub TakesLine : World → World → ℕ → Line → Result Bool Status → Outside → Outside → Type 0
TakesLine x y line event result mid new =
    IsTurn x y result mid new (IsRead (call_parts x) line mid)
    (λ s inputs. event_step by_ends s inputs (inputs Events) event) (λ _. true) (more_of (call_parts x) + 1)

-- and a frame is asked for that may be captured
pub record IsAsked (x : CallParts) (line : ℕ) (now old : Outside) (s : CallState)
    (inputs : Role → List ℕ) : Type 0 where
  pub read : IsRead x line now old s inputs
  pub none : refusal_at by_ends s Send ≡ None

abbrev pub TakesFrame : World → World → ℕ → Result Bool Status → Outside → Outside → Type 0
TakesFrame x y line result mid new =
    IsTurn x y result mid new (IsAsked (call_parts x) line mid)
    (λ s inputs. capture_step s (inputs Events) (inputs Video)) (λ _. true) (more_of (call_parts x) + 1)

-- ---- a line

-- its event is allowed where it is not refused; of all packets the first one tells
abbrev pub IsChecked : Result Unit Told → Line → (Event → Option Refusal) → Type 0
IsChecked result says.Nothing refusal = OnErr result ⊥
IsChecked result says.Send refusal = IsAllowed result Send (refusal Send)
IsChecked result (says.Packet n j) refusal = IsAllowed result (Deliver n j) (refusal (Deliver n j))
IsChecked result (says.All n) refusal = IsAllowed result (Deliver n 0) (refusal (Deliver n 0))
IsChecked result (says.Back k) refusal = IsAllowed result (Back k) (refusal (Back k))
IsChecked result says.Play refusal = IsAllowed result Play (refusal Play)
