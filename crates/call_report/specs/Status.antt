-- How a run ends: the number of its status, and the phase in which it ended.
use Rattle.std.specs.Prelude.{ℕ, Bool, true, false}
use Rattle.call_report.specs.declared.status.Status.{Status}
use Rattle.call_report.specs.declared.status.Status.TheVariants.{Ok as Fine, OutOfMemory, Usage, ReadFault, WriteFault, VideoRefused, TraceRefused, LogRefused, OpenFault, Video2Refused}
use Rattle.h263_outside.specs.declared.desk.Role.{Role}
use Rattle.y4m.specs.declared.fault.VideoStop.{VideoStop}
use Rattle.y4m.specs.declared.fault.VideoStop.TheVariants as video
use Rattle.loss_trace.specs.declared.fault.TraceStop.{TraceStop}
use Rattle.loss_trace.specs.declared.fault.TraceStop.TheVariants as stop
use Rattle.loss_trace.specs.declared.fault.TraceFault.TheVariants as trace
use Rattle.event_logs.specs.declared.fault.LogStop.{LogStop}
use Rattle.event_logs.specs.declared.fault.LogStop.TheVariants as log_stops
use Rattle.event_logs.specs.declared.fault.LogFault.TheVariants as log

-- what the process ends with
abbrev pub code_of : Status → ℕ
code_of Fine = 0
code_of OutOfMemory = 1
code_of Usage = 2
code_of ReadFault = 3
code_of WriteFault = 4
code_of (VideoRefused fault) = 5
code_of (TraceRefused fault) = 6
code_of (LogRefused fault) = 7
code_of (OpenFault role) = 8
code_of (Video2Refused fault) = 9

-- in which phase a run ended; every table over statuses follows from it
pub data Phase : Type 0 where
  -- the input was read to its end
  finished : Phase
  -- an input was refused at some place, and all before it was written
  refused : Phase
  -- a read failed on the way
  unread : Phase
  -- a write failed
  unwritten : Phase
  -- memory ran out
  starved : Phase
  -- the words asked for nothing
  unasked : Phase
  -- this role could not be attached
  unopened : (role : Role) → Phase

abbrev pub phase : Status → Phase
phase Fine = finished
phase OutOfMemory = starved
phase Usage = unasked
phase ReadFault = unread
phase WriteFault = unwritten
phase (VideoRefused fault) = refused
phase (TraceRefused fault) = refused
phase (LogRefused fault) = refused
phase (OpenFault role) = unopened role
phase (Video2Refused fault) = refused

-- all the output that is owed was written: at the end of the input, or where it was refused
abbrev pub settled : Phase → Bool
settled finished = true
settled refused = true
settled _ = false

-- nothing was read and no output but the report's written
abbrev pub before_reading : Phase → Bool
before_reading unasked = true
before_reading (unopened role) = true
before_reading _ = false

-- the status of a reader that stopped
abbrev pub video_stop : VideoStop → Status
video_stop video.Read = ReadFault
video_stop (video.Refused fault) = VideoRefused fault

abbrev pub trace_stop : TraceStop → Status
trace_stop stop.Read = ReadFault
trace_stop (stop.Bad line) = TraceRefused (trace.BadLine line)
trace_stop (stop.TooMany line) = TraceRefused (trace.TooMany line)

abbrev pub log_stop : LogStop → Status
log_stop log_stops.Read = ReadFault
log_stop (log_stops.BadRecord at) = LogRefused (log.BadRecord at)
log_stop (log_stops.TooMany at) = LogRefused (log.TooMany at)
