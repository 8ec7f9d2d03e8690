-- A turn of the second party is a turn of the first where both have changed places.
use Rattle.std.specs.Prelude.{Bool, Result, Ok, Err}
use Rattle.h263_outside.specs.Desk.{exchanged}
use Rattle.h263_outside.specs.declared.desk.Role.{Role}
use Rattle.call_report.specs.declared.status.Status.{Status}
use Rattle.call_report.specs.declared.status.Status.TheVariants.{Ok as Fine, OutOfMemory, Usage, ReadFault, WriteFault, VideoRefused, TraceRefused, LogRefused, OpenFault, Video2Refused}
use Rattle.desk_program.specs.Run.{Turn, End, Step}
use Rattle.desk_program.specs.Run.Step.{Goes, Ends}

-- what is said role by role, where both have changed places
abbrev pub for_second : {A : Type 0} → (Role → A) → Role → A
for_second f r = f (exchanged r)

-- a refused video is the second party's
abbrev pub second_status : Status → Status
second_status (VideoRefused fault) = Video2Refused fault
second_status Fine = Fine
second_status OutOfMemory = OutOfMemory
second_status Usage = Usage
second_status ReadFault = ReadFault
second_status WriteFault = WriteFault
second_status (TraceRefused fault) = TraceRefused fault
second_status (LogRefused fault) = LogRefused fault
second_status (OpenFault role) = OpenFault role
second_status (Video2Refused fault) = Video2Refused fault

abbrev pub second_result : Result Bool Status → Result Bool Status
second_result (Ok goes) = Ok goes
second_result (Err status) = Err (second_status status)

-- what a turn takes and writes, as the second party's
abbrev pub second_turn : Turn → Turn
second_turn turn =
    record { taken = for_second turn.taken; whole = turn.whole; texts = for_second turn.texts }

abbrev pub second_end : End → End
second_end last =
    record {
      status = second_status last.status;
      taken = for_second last.taken;
      texts = for_second last.texts;
    }

abbrev pub second_step : {State : Type 0} → Step State → Step State
second_step (Goes next turn) = Goes next (second_turn turn)
second_step (Ends last) = Ends (second_end last)
