-- How two steps over a desk add up, and why a turn stops.
use Rattle.std.proofs.Common.{◌≡◌, ℕ, ◌≤◌, Bool, Result, Ok, Err, IfErr, refl, ◌∙◌, arith}
use Rattle.h263_outside.specs.Desk.{Faults, NoneFalls, OnlyReads, OnlyWrites, Outside, Rose}
use Rattle.y4m.specs.declared.fault.VideoStop.{VideoStop}
use Rattle.y4m.specs.declared.fault.VideoStop.TheVariants as video
use Rattle.loss_trace.specs.declared.fault.TraceStop.{TraceStop}
use Rattle.loss_trace.specs.declared.fault.TraceStop.TheVariants as trace
use Rattle.call_report.specs.declared.status.Status.{Status}
use Rattle.call_report.specs.Status.{Phase, phase, trace_stop, video_stop}
use Rattle.call_report.specs.Status.Phase.{finished, refused, unread, unwritten, starved, unasked, unopened}
use Rattle.desk_program.specs.Ends.{CauseIn, ComesAtStop, HasCause, IsStop, KeepsRoles, turn_status}

-- ---- how the answers of two steps add up

-- where a turn gave up after a read, the count rose since before the read
pub cause_since : (r : Result Bool Status) (old mid new : Faults) → NoneFalls old mid
    → ((a b c : ℕ) → a ≤ b → Rose b c → Rose a c) → IfErr r IsStop → HasCause (turn_status r) mid new
    → HasCause (turn_status r) old new
cause_since (Ok goes) old mid new still rose stop cause = tt
cause_since (Err status) old mid new still rose stop cause = by_phase (phase status) stop cause
  where
    by_phase : (ph : Phase) → ComesAtStop ph → CauseIn ph mid new → CauseIn ph old new
    by_phase unread s cause = rose old.read mid.read new.read still.read cause
    by_phase unwritten s cause = rose old.write mid.write new.write still.write cause
    by_phase refused s cause = tt
    by_phase finished s cause = absurd s
    by_phase starved s cause = absurd s
    by_phase unasked s cause = absurd s
    by_phase (unopened role) s cause = absurd s

-- after reads, and after writes
pub reads_keep : (old new : Outside) → OnlyReads old new → KeepsRoles old new
reads_keep old new r = record { attached = r.attached; name = r.name; faults = r.faults; loans = r.loans }

pub writes_keep : (old new : Outside) → OnlyWrites old new → KeepsRoles old new
writes_keep old new r = record { attached = r.attached; name = r.name; faults = r.faults; loans = r.loans }

pub keeps_then : (old mid new : Outside) → KeepsRoles old mid → KeepsRoles mid new → KeepsRoles old new
keeps_then old mid new first keeps = record {
  attached = keeps.attached ∙ first.attached;
  name = keeps.name ∙ first.name;
  faults = record {
    attach = omega (arith, first.faults.attach, keeps.faults.attach);
    read = omega (arith, first.faults.read, keeps.faults.read);
    write = omega (arith, first.faults.write, keeps.faults.write);
  };
  loans = keeps.loans ∙ first.loans;
}

pub roles_same : (now : Outside) → KeepsRoles now now
roles_same now = record {
  attached = refl;
  name = refl;
  faults = record { attach = omega arith; read = omega arith; write = omega arith };
  loans = refl;
}

-- ---- why a turn stops

pub video_stops : (stop : VideoStop) → IsStop (video_stop stop)
video_stops video.Read = tt
video_stops (video.Refused fault) = tt

pub video_cause : (stop : VideoStop) (old new : Faults) → (stop ≡ video.Read → Rose old.read new.read)
    → HasCause (video_stop stop) old new
video_cause video.Read old new rose = rose refl
video_cause (video.Refused fault) old new rose = tt

pub trace_halts : (stop : TraceStop) → IsStop (trace_stop stop)
trace_halts trace.Read = tt
trace_halts (trace.Bad line) = tt
trace_halts (trace.TooMany line) = tt

pub trace_cause : (stop : TraceStop) (old new : Faults) → (stop ≡ trace.Read → Rose old.read new.read)
    → HasCause (trace_stop stop) old new
trace_cause trace.Read old new rose = rose refl
trace_cause (trace.Bad line) old new rose = tt
trace_cause (trace.TooMany line) old new rose = tt
