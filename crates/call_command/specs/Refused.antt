-- How the refusal of an event is told, with the line that says it.
use Rattle.std.specs.Prelude.{◌≡◌, ℕ, Result, Ok, Err}
use Rattle.call_report.specs.declared.status.Status.{Status}
use Rattle.call_report.specs.declared.status.Status.TheVariants.{TraceRefused}
use Rattle.loss_trace.specs.declared.fault.TraceFault.{TraceFault}
use Rattle.loss_trace.specs.declared.fault.TraceFault.TheVariants as trace
use Rattle.call_model.specs.IdealCall.{Event}
use Rattle.call_model.specs.Refusals.{Refusal}
use Rattle.one_way.specs.declared.refusals.EventRefusal.{EventRefusal as Told}
use Rattle.one_way.specs.declared.refusals.EventRefusal.TheVariants.{NotSent, NotSaid, Far, PlayBeforeSend, NoFrame}
use Rattle.one_way.specs.Refused.{told_as}

-- with its line
abbrev pub fault_on_line : ℕ → Told → TraceFault
fault_on_line line NotSent = trace.NotSent line
fault_on_line line NotSaid = trace.NotSaid line
fault_on_line line (Far given other) = trace.Far line given other
fault_on_line line PlayBeforeSend = trace.PlayBeforeSend line
fault_on_line line NoFrame = trace.NoFrame line

-- with this status a run ends whose next line asks for an event that is refused so
abbrev pub IsRefusedWith : ℕ → Result Unit Told → Status → Type 0
IsRefusedWith line (Ok _) status = ⊥
IsRefusedWith line (Err told) status = status ≡ TraceRefused (fault_on_line line told)

-- the event of a line is not refused
abbrev pub IsNotRefused : Result Unit Told → Type 0
IsNotRefused (Ok _) = Unit {0}
IsNotRefused (Err told) = ⊥

-- of a message that is far its own number is told, not its picture's
abbrev pub fault_told : ℕ → Event → Refusal → TraceFault
fault_told line e refusal = fault_on_line line (told_as e refusal)
