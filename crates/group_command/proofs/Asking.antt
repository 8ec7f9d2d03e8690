-- A line that asks for a frame: it is refused, or the frame is read.
use Rattle.std.proofs.Common.{◌≡◌, ℕ, ◌+◌, Bool, true, List, Option, Some, None, Result, Ok, Err, IsErrAnd, sym, ap, subst, ◌∙◌}
use Rattle.h263_types.specs.Clocks.{half_of}
use Rattle.h263_types.specs.declared.params.Params.{Params}
use Rattle.h263_outside.specs.Desk.{Outside}
use Rattle.h263_outside.specs.declared.desk.Role.{Role}
use Rattle.h263_outside.specs.declared.desk.Role.TheVariants.{Video, Events}
use Rattle.call_report.specs.declared.status.Status.{Status}
use Rattle.call_report.specs.declared.status.Status.TheVariants.{TraceRefused}
use Rattle.call_model.specs.IdealCall.{Event, Send}
use Rattle.call_model.specs.Refusals.{Refusal}
use Rattle.call_command.specs.Laws.{LineLaws}
use Rattle.call_command.specs.Refused.{IsNotRefused, IsRefusedWith, fault_on_line, fault_told}
use Rattle.desk_program.specs.Ends.{Ended, TurnGives}
use Rattle.desk_program.specs.Laws.{StepLaws}
use Rattle.desk_program.specs.Run.{Step}
use Rattle.one_way.specs.declared.refusals.EventRefusal.{EventRefusal as Told}
use Rattle.one_way.specs.Refused.{IsAllowed}
use Rattle.group_sender.specs.Holding.{Groups}
use Rattle.group_call.specs.Holding.{HoldsBroadcast}
use Rattle.group_call.specs.Viewing.{ViewerRun}
use Rattle.group_command.specs.declared.line.GroupLine.TheVariants.{ForAll}
use Rattle.group_command.specs.declared.room.Room.{Room}
use Rattle.group_command.specs.Group.{GroupState, group_capture_step, first_behind, group_line_step, room_may_read}
use Rattle.group_command.specs.Standing.{AllWatch, RoomStandsAt, viewers_in}
use Rattle.group_command.specs.Turning.{IsGroupRead, TakesGroupFrame, TakesGroupLine}
use Rattle.group_command.proofs.Doing.{none_so}
use Rattle.group_command.proofs.LineTurning.{line_refused}
use Rattle.group_command.proofs.LineTurns.{gave_up}
use Rattle.call_command.specs.Call.{unless_refused}

-- a refusal of an event that a line says ends it
pub event_refused : (m : Room) (line : ℕ) (now old : Outside) (s : GroupState) (inputs : Role → List ℕ)
    → IsGroupRead m line now old s inputs → LineLaws
    → (told : Told) (e : Event) (refusal : Option Refusal) (step : Step GroupState)
    → IsAllowed (Err told) e refusal
    → Ended (unless_refused (s.lines + 1) (inputs Events) e refusal step) (TraceRefused (fault_on_line line told))
    inputs old now
event_refused m line now old s inputs b laws told e refusal step refused =
    let told_so = refused.2 in
    line_refused s inputs old now b.taken laws (TraceRefused (fault_on_line line told)) (fault_told (s.lines + 1) e
    refused.0)
    _
    (λ i. TraceRefused (fault_on_line (b.number i) (told_so i)))
    (ap (λ (o : Option Refusal). unless_refused (s.lines + 1) (inputs Events) e o step) refused.1)

module _ (m : Room) (line : ℕ) (now : Outside) where
  -- what is said of a capture, where the machine stands
  pub all_allowed : (old : Outside) (s : GroupState) (inputs : Role → List ℕ) → IsGroupRead m line now old s inputs
      → (half : ℕ) (checked : Result Unit Told) → half ≡ half_of m.params.clock
      → ((p : Params) (run : Groups) (views : List ViewerRun) → half ≡ half_of p.clock → HoldsBroadcast p m.cast run
      → AllWatch p run (viewers_in m.viewers) views → IsAllowed checked Send (first_behind p run views))
      → IsAllowed checked Send (first_behind s.params s.run s.views)
  all_allowed old s inputs b half checked half_is says = says s.params s.run s.views (half_is
      ∙ ap (λ (p : Params). half_of p.clock) (sym b.stood.params)) b.stood.cast b.stood.views

  pub capture_refused : LineLaws → StepLaws → (r : Result Bool Status) (status : Status) (checked : Result Unit Told)
      → IsErrAnd r (λ z. z ≡ status) → IsRefusedWith line checked status
      → ((old : Outside) (s : GroupState) (inputs : Role → List ℕ) → IsGroupRead m line now old s inputs
      → IsAllowed checked Send (first_behind s.params s.run s.views))
      → TakesGroupLine m m line ForAll r now now
  capture_refused laws steps r status (Ok u) is refused says = absurd refused
  capture_refused laws steps r status (Err told) is refused says =
      gave_up m now now (IsGroupRead m line now) (λ s inputs. group_line_step s inputs (Some ForAll)) r
      (TraceRefused (fault_on_line line told)) (subst (λ (w : Status). IsErrAnd r (λ z. z ≡ w)) refused is) tt tt
      (steps.none now)
      (λ old s inputs b. event_refused m line now old s inputs b laws told Send (first_behind s.params s.run s.views)
      (group_capture_step s (inputs Events) (inputs Video)) (says old s inputs b))

  pub frame_asked : (m_new : Room) (r : Result Bool Status) (new : Outside) (checked : Result Unit Told)
      → IsNotRefused checked → TakesGroupFrame m m_new line r now new
      → ((old : Outside) (s : GroupState) (inputs : Role → List ℕ) → IsGroupRead m line now old s inputs
      → IsAllowed checked Send (first_behind s.params s.run s.views))
      → TakesGroupLine m m_new line ForAll r now new
  frame_asked m_new r new checked free t says = record {
    gives = λ old s inputs b.
        let none : first_behind s.params s.run s.views
        ≡ None = none_so checked Send (first_behind s.params s.run s.views) free (says old s inputs b) in
        subst (λ (step : Step GroupState). TurnGives r step (RoomStandsAt m_new) room_may_read true inputs old new)
        (sym (ap (λ (o : Option Refusal). unless_refused (s.lines + 1) (inputs Events) Send o
        (group_capture_step s (inputs Events) (inputs Video))) none))
        (t.gives old s inputs (record { read = b; none = none }));
    goes_on = t.goes_on;
    ready = t.ready;
    stop = t.stop;
    cause = t.cause;
    rest = t.rest;
  }
