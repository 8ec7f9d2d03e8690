-- How the reads and writes of one turn add up, what a refusal comes to, why a turn stops, and how runs begin.
use Rattle.std.specs.Prelude.{ℕ, ◌≡◌, ◌≢◌, Bool, true, List, [], Option, Some, Result, IfErr, drop}
use Rattle.h263_outside.specs.Desk.{Faults, IsInput, NoneFalls, OnlyReads, OnlyWrites, Outside, Rose, appended, GainsFront}
use Rattle.h263_outside.specs.declared.desk.Role.{Role}
use Rattle.y4m.specs.declared.fault.VideoStop.{VideoStop}
use Rattle.y4m.specs.declared.fault.VideoStop.TheVariants as video
use Rattle.loss_trace.specs.declared.fault.TraceStop.{TraceStop}
use Rattle.loss_trace.specs.declared.fault.TraceStop.TheVariants as trace
use Rattle.call_report.specs.declared.status.Status.{Status}
use Rattle.call_report.specs.declared.status.Status.TheVariants.{OutOfMemory}
use Rattle.call_report.specs.Status.{phase, trace_stop, video_stop}
use Rattle.desk_program.specs.Run.{Run, Step, left_after, refusal, run_from, video_refusal}
use Rattle.desk_program.specs.Ends.{Tells, Gains, GainsFronts, EndsBy, GivesUp, HasCause, HasEnded, IsStop, KeepsRoles, Went, silent, turn_status}
use Rattle.desk_program.specs.UnderWay.{IsUnderWay}
use Rattle.desk_program.specs.Texts.{no_texts, on, then_also, no_bytes, of, and_of}

pub record TurnLaws : Type 0 where
  -- one write is a text on that output and none on the others, and so is a prefix of it
  pub one_text : (role : Role) (bytes : List ℕ) (old new : Role → Option (List ℕ)) →
      new ≡ appended old role bytes → Gains (on role bytes) old new
  pub one_front : (role : Role) (bytes : List ℕ) (old new : Role → Option (List ℕ)) →
      GainsFront role bytes old new → GainsFronts (on role bytes) old new
  -- nothing was written
  pub no_text : (old new : Role → Option (List ℕ)) → new ≡ old → Gains no_texts old new
  -- one text after the other, and a prefix of both
  pub both_texts : (first second : Role → List ℕ) (old mid new : Role → Option (List ℕ)) →
      Gains first old mid → Gains second mid new → Gains (then_also first second) old new
  pub front_of_first : (first second : Role → List ℕ) (old new : Role → Option (List ℕ)) →
      GainsFronts first old new → GainsFronts (then_also first second) old new
  pub front_of_second : (first second : Role → List ℕ) (old mid new : Role → Option (List ℕ)) →
      Gains first old mid → GainsFronts second mid new → GainsFronts (then_also first second) old new
  -- nothing was read
  pub no_byte : (old new : Outside) (inputs : Role → List ℕ) →
      new.left ≡ old.left → Tells old inputs → Tells new (left_after inputs no_bytes)
  -- this many bytes of one input were read, and none of the others
  pub one_read : (role : Role) (n : ℕ) (old new : Outside) (inputs : Role → List ℕ) →
      Tells old inputs → new.left role ≡ Some (drop n (inputs role))
      → ((r : Role) → r ≢ role → new.left r ≡ old.left r) → Tells new (left_after inputs (of role n))
  -- a read at the end of an input found nothing
  pub none_read : (role : Role) (old new : Outside) (inputs : Role → List ℕ) →
      Tells old inputs → inputs role ≡ [] → new.left role ≡ Some []
      → ((r : Role) → r ≢ role → new.left r ≡ old.left r) → Tells new inputs
  -- one read after the other
  pub both_reads : (first second : Role → ℕ) (new : Outside) (inputs : Role → List ℕ) →
      Tells new (left_after (left_after inputs first) second) → Tells new (left_after inputs (and_of first second))
  -- an end that takes this much of each input, and writes its texts
  pub ends : (status : Status) (taken : Role → ℕ) (texts inputs : Role → List ℕ) (old new : Outside) →
      Tells new (left_after inputs taken) → Gains texts old.written new.written
      → EndsBy (record { status = status; taken = λ r. Some (taken r); texts = texts }) status inputs old new
  -- a refusal says nothing of what it takes, and writes nothing
  pub refuses : (status : Status) (inputs : Role → List ℕ) (old new : Outside) →
      new.written ≡ old.written → EndsBy (refusal status) status inputs old new
  -- a video is refused, and this much was taken of each other input
  pub refuses_video : (video : Role) (before : Role → ℕ) (status : Status) (inputs : Role → List ℕ)
      (old new : Outside) → ((r : Role) → IsInput r → r ≢ video → new.left r ≡ Some (left_after inputs before r))
      → new.written ≡ old.written → EndsBy (video_refusal video before status) status inputs old new

-- how two steps over a desk add up, and why a turn stops
pub record StepLaws : Type 0 where
  -- the roles are kept by reads, by writes, by one step after another, and where nothing is done
  pub reads : (old new : Outside) → OnlyReads old new → KeepsRoles old new
  pub writes : (old new : Outside) → OnlyWrites old new → KeepsRoles old new
  pub both : (old mid new : Outside) → KeepsRoles old mid → KeepsRoles mid new → KeepsRoles old new
  pub none : (now : Outside) → KeepsRoles now now
  -- where a turn gives up, its cause since a step is one since before that step
  pub since : (r : Result Bool Status) (old mid new : Faults) → NoneFalls old mid → IfErr r IsStop
      → HasCause (turn_status r) mid new → HasCause (turn_status r) old new
  -- a stop by the reader of the video, or of the trace: its cause is a read that failed
  pub video_stops : (stop : VideoStop) → IsStop (video_stop stop)
  pub video_cause : (stop : VideoStop) (old new : Faults) → (stop ≡ video.Read → Rose old.read new.read)
      → HasCause (video_stop stop) old new
  pub trace_stops : (stop : TraceStop) → IsStop (trace_stop stop)
  pub trace_cause : (stop : TraceStop) (old new : Faults) → (stop ≡ trace.Read → Rose old.read new.read)
      → HasCause (trace_stop stop) old new

-- where a run begins, just one state is kept in mind
abbrev pub IsFrom : {State : Type 0} → State → State → (Role → List ℕ) → Type 0
IsFrom from s rest = s ≡ from

-- of a machine, by what it keeps in mind and by how many events may still come
pub record RunLaws {Machine State : Type 0}
    (stands : Machine → State → (Role → List ℕ) → Type 0) (more : Machine → ℕ) : Type 0 where
  -- a start that goes on has the run under way: with a machine, or from just one state
  pub begins : (machine : Machine) (first : Step State) (step : State → (Role → List ℕ) → Step State)
      (reads : State → Bool) (most : ℕ) (inputs : Role → List ℕ) (old new : Outside)
      → more machine ≡ most → Went first (stands machine) reads true inputs old new
      → IsUnderWay step reads (run_from first step most inputs) inputs old.written (stands machine) (more machine) new
  pub begins_from : (from : State) (first : Step State) (step : State → (Role → List ℕ) → Step State)
      (reads : State → Bool) (most : ℕ) (inputs : Role → List ℕ) (old new : Outside)
      → Went first (IsFrom from) reads true inputs old new
      → IsUnderWay step reads (run_from first step most inputs) inputs old.written (IsFrom from) most new
  -- a start that gives up has ended it
  pub gives_up : (first : Step State) (step : State → (Role → List ℕ) → Step State)
      (most : ℕ) (inputs : Role → List ℕ) (old new : Outside) (status : Status)
      → GivesUp (phase status) status first true inputs old new
      → HasEnded (run_from first step most inputs) silent status inputs old.written new
  -- memory was refused to a run under way from some state, and nothing was done since
  pub no_memory : (from : State) (step : State → (Role → List ℕ) → Step State) (reads : State → Bool)
      (run : Run) (inputs : Role → List ℕ) (start : Role → Option (List ℕ)) (more : ℕ) (now : Outside)
      → IsUnderWay step reads run inputs start (IsFrom from) more now
      → HasEnded run silent OutOfMemory inputs start now
