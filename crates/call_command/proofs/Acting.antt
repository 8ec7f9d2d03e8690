-- A command that gives up before its first event.
use Rattle.std.proofs.Common.{Option}
use Rattle.h263_outside.specs.Desk.{Outside}
use Rattle.h263_outside.specs.declared.desk.Role.{Role}
use Rattle.call_report.specs.declared.status.Status.{Status}
use Rattle.call_report.specs.Status.{Phase, phase}
use Rattle.call_report.specs.Status.Phase.{finished, refused, unread, unwritten, starved, unasked, unopened}
use Rattle.desk_program.specs.Ends.{ComesAtStart, ComesLater, IsLater, IsReadOut, IsUnstarted, ReadOutIn}

-- it has read nothing out
pub not_read_out : (status : Status) (source : Option Role) (now : Outside) → IsUnstarted status
    → IsReadOut status source now
not_read_out status source now stop = by_phase (phase status) stop
  where
    by_phase : (ph : Phase) → ComesAtStart ph → ReadOutIn ph source now
    by_phase finished stop = absurd stop
    by_phase refused stop = tt
    by_phase unread stop = tt
    by_phase unwritten stop = tt
    by_phase starved stop = tt
    by_phase unasked stop = tt
    by_phase (unopened role) stop = tt

-- and its status is one that comes once all is attached
pub later_stop : (status : Status) → IsUnstarted status → IsLater status
later_stop status stop = by_phase (phase status) stop
  where
    by_phase : (ph : Phase) → ComesAtStart ph → ComesLater ph
    by_phase finished stop = absurd stop
    by_phase refused stop = tt
    by_phase unread stop = tt
    by_phase unwritten stop = tt
    by_phase starved stop = tt
    by_phase unasked stop = absurd stop
    by_phase (unopened role) stop = absurd stop
